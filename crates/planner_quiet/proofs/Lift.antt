-- From a setting to the device, for every part whose map has the tests of `Plannable`: an orderly list is quiet on every device, and a quiet list on any device is orderly enough to be ruled out where a pin is stuck. Assumes nothing.
use mathlib.Core.Path.{◌≡◌, refl, sym, ap, ap₂, subst, ◌∙◌}
use mathlib.Core.Logic.{inl, inr, ⊎_elim}
use mathlib.Core.Bool.{Bool, true, false, cond}
use mathlib.Core.List.{List, [], ◌∷◌}
use Prim.Native.Nat.{ℕ, zero, suc, ◌+◌, ◌-◌, ◌*◌, ◌/◌, ◌%◌, ◌<◌, min}
use native.Mathlib.Nat.{mod-lt, div-lt_iff_lt-mul, div-add-mod'}
use native.Mathlib.Omega.{arith}
use borrow.Author.Tests.{eqb-true, eqb-false}
use lib.Dec.{eqb}
use lib.ListN.{get_or, set, length, length-set}
use lib.Seq.{get_or-set_same, get_or-set_other}
use Rattle.bits.specs.Bits.{bit}
use Rattle.bits.proofs.Decide.{clash}
use Rattle.pins.specs.Pin.{Source, source, drive, status, configuration_written}
use Rattle.pins.specs.OnePin.{OnePin, after, registers_after, pin_after, status_of}
use Rattle.pins.specs.OnePin.Happening.{ConfigurationWritten, OutputWritten, PinKindWritten, Elsewhere}
use Rattle.ports.specs.Ports.{port_bit}
use Rattle.map.specs.Map.{Part, Kind, first_of, kind_at, stored}
use Rattle.map.specs.Map.Kind.{Reserved, Input, Status, InputStatus, Configuration, Latch, Mask, PortKind, Edge, Clear, Output, Polarity, PinKind, Stored}
use Rattle.registers.specs.Registers.{Core, one_pin, of_port, written_to, written_as, written}
use Rattle.registers.proofs.Written.{write_pin}
use Rattle.planner_quiet.specs.Settings.{registers_of, shape_of, Settings, drive_in, Write, place, place_of, put, run, nth}
use Rattle.planner_quiet.specs.Settings as setting
use Rattle.planner_quiet.specs.Order.{Good, Orderly}
use Rattle.planner_quiet.specs.Quiet.{Still, QuietOn, Changing, Sparing, read_all, settings_of, writes, after_first, IsPlanned, Listed, drive_at, input_at, status_at, bits_at}
use Rattle.planner_quiet.proofs.Along.{distinct, once_only}
use Rattle.planner_quiet.proofs.Plannable.{planned, number_at, kept_at, Plannable, is_found, planned_small, planned_kind, kept_bits}

-- ---- what the registers of a list hold
pub read_nth : (file xs : List ℕ) (i : ℕ) → i < length xs → get_or (read_all file xs) i 0 ≡ get_or file (get_or xs i 0) 0
read_nth file [] i h = absurd (omega arith)
read_nth file (x ∷ xs) zero h = refl
read_nth file (x ∷ xs) (suc i) h = read_nth file xs i (omega arith)

module _ (file : List ℕ) (r v : ℕ) (h : r < length file) where
  not_in : (xs : List ℕ) → place xs r ≡ length xs → read_all (set file r v) xs ≡ read_all file xs
  not_in [] e = refl
  not_in (x ∷ xs) e = go (not_in xs) (eqb x r) refl e
    where
      go : (place xs r ≡ length xs → read_all (set file r v) xs ≡ read_all file xs) → (b : Bool) → eqb x r ≡ b
          → cond b 0 (suc (place xs r)) ≡ suc (length xs) → read_all (set file r v) (x ∷ xs) ≡ read_all file (x ∷ xs)
      go rest true q e = absurd (omega arith)
      go rest false q e = ap₂ (λ (a : ℕ) (l : List ℕ). a ∷ l) (get_or-set_other file r x v 0 (eqb-false x r q)) (rest (omega arith))

  read_set : (xs : List ℕ) → distinct xs ≡ true → read_all (set file r v) xs ≡ set (read_all file xs) (place xs r) v
  read_set [] d = refl
  read_set (x ∷ xs) d = go (read_set xs (once_only x xs d).1) (eqb x r) refl
    where
      go : read_all (set file r v) xs ≡ set (read_all file xs) (place xs r) v → (b : Bool) → eqb x r ≡ b
          → read_all (set file r v) (x ∷ xs) ≡ set (read_all file (x ∷ xs)) (cond b 0 (suc (place xs r))) v
      go rest true q =
          ap₂ (λ (a : ℕ) (l : List ℕ). a ∷ l) (ap (λ (n : ℕ). get_or (set file r v) n 0) (eqb-true x r q) ∙ get_or-set_same file r v 0 h)
          (not_in xs (ap (place xs) (sym (eqb-true x r q)) ∙ (once_only x xs d).0))
      go rest false q = ap₂ (λ (a : ℕ) (l : List ℕ). a ∷ l) (get_or-set_other file r x v 0 (eqb-false x r q)) rest

-- ---- what a write to a setting's register stores
kept_stored : (k : Kind) → planned k ≡ true → stored k ≡ true
kept_stored Output t = refl
kept_stored Configuration t = refl
kept_stored PortKind t = refl
kept_stored PinKind t = refl
kept_stored Reserved t = clash false t refl
kept_stored Input t = clash false t refl
kept_stored Status t = clash false t refl
kept_stored InputStatus t = clash false t refl
kept_stored Latch t = clash false t refl
kept_stored Mask t = clash false t refl
kept_stored Edge t = clash false t refl
kept_stored Clear t = clash false t refl
kept_stored Polarity t = clash false t refl
kept_stored Stored t = clash false t refl

module _ (p : Part) (ok : Plannable p) (s : Core) (w : Write) (full : length s.file ≡ 128) (h : IsPlanned p w.register) (hv : w.value < 256) where
  -- it changes that register alone
  pub one_register : (written p s w.register w.value).file ≡ set s.file w.register (setting.stored (shape_of p) (place_of (shape_of p) w) w.value)
  unfolding written_as
  one_register =
      let k = kind_at p w.register in
      ap (λ (b : Bool). cond b (set s.file w.register (kept_at p w.register w.value)) s.file) (kept_stored k (planned_kind p ok w.register h))
      ∙ ap (set s.file w.register) (kept_bits p ok w.register h w.value hv)

  pub reads : settings_of p (written p s w.register w.value) ≡ put (shape_of p) (settings_of p s) w
  reads =
      ap (λ (f : List ℕ). read_all f (registers_of p)) one_register
      ∙ read_set s.file w.register (setting.stored (shape_of p) (place_of (shape_of p) w) w.value) (omega (arith, full, planned_small p ok w.register h)) (registers_of p)
      ok.regular.distinct

  pub stays_full : length (written p s w.register w.value).file ≡ 128
  stays_full = ap length one_register ∙ simp length-set full

  pub other_stays : (n : ℕ) → (IsPlanned p n → ⊥) → get_or (written p s w.register w.value).file n 0 ≡ get_or s.file n 0
  other_stays n z =
      ap (λ (f : List ℕ). get_or f n 0) one_register
      ∙ get_or-set_other s.file w.register n _ 0 (λ e. z (subst (IsPlanned p) (sym e) h))

-- ---- what a setting says of pin i is what the device's registers say of it
-- its place in its port
pub in_port_lem : (w i : ℕ) → i < w → i % 8 < min 8 (w - 8 * (i / 8))
in_port_lem w i h = let m : i % 8 < 8 = mod-lt i (omega arith) in omega (arith, h, div-add-mod' i 8, m)

module _ (p : Part) (ok : Plannable p) (s : Core) (i : ℕ) (h : i < p.width) where
  pub port_of : i / 8 < p.ports
  port_of = let eight : 0 < 8 = omega arith in (div-lt_iff_lt-mul eight).1 (omega (arith, h, ok.mapped.narrow))

  entry : (q n : ℕ) → q < length (registers_of p) → number_at p q ≡ n → get_or (settings_of p s) q 0 ≡ get_or s.file n 0
  entry q n hq e = read_nth s.file (registers_of p) q hq ∙ ap (λ (n : ℕ). get_or s.file n 0) e

  output_of : get_or (settings_of p s) (i / 8) 0 ≡ get_or s.file (first_of p Output + i / 8) 0
  output_of = entry (i / 8) _ (omega (arith, port_of, ok.regular.count)) (ok.at_output (i / 8) port_of)

  configuration_of : get_or (settings_of p s) (p.ports + i / 8) 0 ≡ get_or s.file (first_of p Configuration + i / 8) 0
  configuration_of = entry (p.ports + i / 8) _ (omega (arith, port_of, ok.regular.count)) (ok.at_configuration (i / 8) port_of)

  kinds_of : get_or (settings_of p s) (2 * p.ports) 0 ≡ get_or s.file (first_of p PortKind) 0
  kinds_of = entry (2 * p.ports) _ (omega (arith, port_of, ok.regular.count)) ok.at_kinds

  pin_kind_of : get_or (settings_of p s) (2 * p.ports + 1 + i / 8) 0 ≡ get_or s.file (first_of p PinKind + i / 8) 0
  pin_kind_of = entry (2 * p.ports + 1 + i / 8) _ (omega (arith, port_of, ok.regular.count)) (ok.at_pin_kinds (i / 8) port_of)

  pub drive_of_lem : drive_in (bits_at p (settings_of p s) i) ≡ drive_at p s i
  drive_of_lem = λ t. drive (bit (configuration_of t) (i % 8)) (bit (output_of t) (i % 8)) (bit (kinds_of t) (i / 8)) (bit (pin_kind_of t) (i % 8))

  pub input_of : (bits_at p (settings_of p s) i).configuration ≡ input_at p s i
  input_of = ap (λ (b : ℕ). bit b (i % 8)) configuration_of

-- ---- a write to one of a setting's registers leaves the status bit of an input that stays one
-- configuration 1 written over 1 does nothing
input_again : (x : OnePin) → x.registers.source.configuration ≡ true → status_of (after (ConfigurationWritten true) x) ≡ status_of x
unfolding registers_after pin_after configuration_written
input_again x was = go x.registers.source.configuration was
  where
    v : Source
    v = x.registers.source

    go : (c : Bool) → c ≡ true
        → status (source true v.mask v.latch v.rising v.falling) (configuration_written v.latch c true x.pin)
        ≡ status (source c v.mask v.latch v.rising v.falling) x.pin
    go true e = refl
    go false e = clash false e refl

input_rests : (p : Part) (k : Kind) (n v i : ℕ) (x : OnePin) → planned k ≡ true → x.registers.source.configuration ≡ true
    → (after (written_to p k n v i) x).registers.source.configuration ≡ true → status_of (after (written_to p k n v i) x) ≡ status_of x
unfolding written_to registers_after pin_after
input_rests p Output n v i x t was now = here (of_port p Output n i)
  where
    here : (b : Bool) → status_of (after (cond b (OutputWritten (port_bit v i)) Elsewhere) x) ≡ status_of x
    here true = refl
    here false = refl
input_rests p PinKind n v i x t was now = here (of_port p PinKind n i)
  where
    here : (b : Bool) → status_of (after (cond b (PinKindWritten (port_bit v i)) Elsewhere) x) ≡ status_of x
    here true = refl
    here false = refl
input_rests p PortKind n v i x t was now = refl
input_rests p Configuration n v i x t was now = here (of_port p Configuration n i) (port_bit v i) now
  where
    here : (b c : Bool) → (after (cond b (ConfigurationWritten c) Elsewhere) x).registers.source.configuration ≡ true
        → status_of (after (cond b (ConfigurationWritten c) Elsewhere) x) ≡ status_of x
    here true true e = input_again x was
    here true false e = clash false e refl
    here false c e = refl
input_rests p Reserved n v i x t was now = clash false t refl
input_rests p Input n v i x t was now = clash false t refl
input_rests p Status n v i x t was now = clash false t refl
input_rests p InputStatus n v i x t was now = clash false t refl
input_rests p Latch n v i x t was now = clash false t refl
input_rests p Mask n v i x t was now = clash false t refl
input_rests p Edge n v i x t was now = clash false t refl
input_rests p Clear n v i x t was now = clash false t refl
input_rests p Polarity n v i x t was now = clash false t refl
input_rests p Stored n v i x t was now = clash false t refl

module _ (p : Part) (ok : Plannable p) where
  -- the device after one write
  abbrev next : Core → Write → Core
  next s w = written p s w.register w.value

  status_rests : (s : Core) (w : Write) → length s.file ≡ 128 → IsPlanned p w.register → (i : ℕ) → i < p.width
      → input_at p s i ≡ true → input_at p (next s w) i ≡ true → status_at p (next s w) i ≡ status_at p s i
  status_rests s w full h i hi was now =
      let e = write_pin p s i hi ok.mapped full w.register (planned_small p ok w.register h) w.value in
      ap status_of e
      ∙ input_rests p (kind_at p w.register) w.register w.value i (one_pin p s i) (planned_kind p ok w.register h) was
      (ap (λ (x : OnePin). x.registers.source.configuration) (sym e) ∙ now)

  -- ---- along a list
  -- pin i is an input after every write, so its status bit is what it was
  input_along : (i : ℕ) → i < p.width → (s : Core) (ws : List Write) → length s.file ≡ 128 → Listed p ws → ((t : ℕ) → input_at p (after_first p s ws t) i ≡ true)
      → (t : ℕ) → status_at p (after_first p s ws t) i ≡ status_at p s i
  input_along i hi s [] full l c zero = refl
  input_along i hi s [] full l c (suc t) = refl
  input_along i hi s (w ∷ ws) full l c zero = refl
  input_along i hi s (w ∷ ws) full l c (suc t) =
      input_along i hi (next s w) ws (stays_full p ok s w full l.0 l.1) l.2 (λ t. c (suc t)) t
      ∙ status_rests s w full l.0 i hi (c 0) (c 1)

  -- after each write the registers hold what the settings say, and the others what they held
  pub settles : (s : Core) (ws : List Write) → length s.file ≡ 128 → Listed p ws → (t : ℕ) → settings_of p (after_first p s ws t) ≡ setting.after (shape_of p) (settings_of p s) ws t
  settles s [] full l zero = refl
  settles s [] full l (suc t) = refl
  settles s (w ∷ ws) full l zero = refl
  settles s (w ∷ ws) full l (suc t) =
      settles (next s w) ws (stays_full p ok s w full l.0 l.1) l.2 t
      ∙ ap (λ (x : Settings). setting.after (shape_of p) x ws t) (reads p ok s w full l.0 l.1)

  pub ends : (s : Core) (ws : List Write) → length s.file ≡ 128 → Listed p ws → settings_of p (writes p s ws) ≡ run (shape_of p) (settings_of p s) ws
  ends s [] full l = refl
  ends s (w ∷ ws) full l =
      ends (next s w) ws (stays_full p ok s w full l.0 l.1) l.2 ∙ ap (λ (x : Settings). run (shape_of p) x ws) (reads p ok s w full l.0 l.1)

  pub others_stay : (s : Core) (ws : List Write) → length s.file ≡ 128 → Listed p ws → Sparing p s ws
  others_stay s [] full l n z zero = refl
  others_stay s [] full l n z (suc t) = refl
  others_stay s (w ∷ ws) full l n z zero = refl
  others_stay s (w ∷ ws) full l n z (suc t) =
      others_stay (next s w) ws (stays_full p ok s w full l.0 l.1) l.2 n z t ∙ other_stays p ok s w full l.0 l.1 n z

  -- a write that changes the settings changes its register
  pub all_change : (s : Core) (ws : List Write) → length s.file ≡ 128 → Listed p ws → ((t : ℕ) → t < length ws → Good (shape_of p) (settings_of p s) ws t) → Changing p s ws
  all_change s [] full l good t h = absurd (omega arith)
  all_change s (w ∷ ws) full l good zero h = λ e.
      (good 0 h).changes
      (read_nth s.file (registers_of p) (place (registers_of p) w.register) l.0 ∙ ap (λ (n : ℕ). get_or s.file n 0) (is_found p ok w.register l.0)
      ∙ e ∙ ap (λ (f : List ℕ). get_or f w.register 0) (one_register p ok s w full l.0 l.1)
      ∙ get_or-set_same s.file w.register _ 0 (omega (arith, full, planned_small p ok w.register l.0)))
  all_change s (w ∷ ws) full l good (suc t) h =
      all_change (next s w) ws (stays_full p ok s w full l.0 l.1) l.2
      (λ t h. subst (λ (x : Settings). Good (shape_of p) x ws t) (sym (reads p ok s w full l.0 l.1)) (later (good (suc t) (omega arith)))) t (omega arith)
    where
      later : {t : ℕ} → Good (shape_of p) (settings_of p s) (w ∷ ws) (suc t) → Good (shape_of p) (put (shape_of p) (settings_of p s) w) ws t
      later q = record { known = q.known; byte = q.byte; changes = q.changes }

  -- the writes of an orderly list are listed
  pub listed_of : (ws : List Write) → ((i : ℕ) → i < length ws → (place_of (shape_of p) (nth ws i) < length (registers_of p)) × ((nth ws i).value < 256)) → Listed p ws
  listed_of [] f = tt
  listed_of (w ∷ ws) f = ((f 0 (omega arith)).0, (f 0 (omega arith)).1, listed_of ws (λ i h. f (suc i) (omega arith)))

  -- ---- an orderly list is quiet on the device, whatever the rest of its state
  pub quiet_on : (s : Core) (goal : Settings) (ws : List Write) → length s.file ≡ 128 → Orderly (shape_of p) (settings_of p s) goal ws → QuietOn p s goal ws
  quiet_on s goal ws full q = record {
    reached = ends s ws full listed ∙ q.reached;
    still = pin;
  }
    where
      listed : Listed p ws
      listed = listed_of ws (λ i h. ((q.good i h).known, (q.good i h).byte))

      pin : (i : ℕ) → i < p.width → Still p (after_first p s ws) goal i
      pin i h =
          let c = q.calm (i / 8) (i % 8) (port_of p ok s i h) (in_port_lem p.width i h) in
          let at : (t : ℕ) → drive_at p (after_first p s ws t) i ≡ drive_in (bits_at p (setting.after (shape_of p) (settings_of p s) ws t) i) =
          λ t. (sym (drive_of_lem p ok (after_first p s ws t) i h) ∙ ap (λ (x : Settings). drive_in (bits_at p x i)) (settles s ws full listed t)) in
          let on : input_at p s i ≡ true → (bits_at p goal i).configuration ≡ true → (t : ℕ) → input_at p (after_first p s ws t) i ≡ true =
          λ a b t. (sym (input_of p ok (after_first p s ws t) i h) ∙ ap (λ (x : Settings). (bits_at p x i).configuration) (settles s ws full listed t)
          ∙ c.input (input_of p ok s i h ∙ a) b t) in
          record {
            either = λ t. ⊎_elim (λ e. inl (at t ∙ e ∙ drive_of_lem p ok s i h)) (λ e. inr (at t ∙ e)) (c.either t);
            once = λ a b ca cb. c.once a b (λ e. ca (at a ∙ e ∙ sym (at (suc a)))) (λ e. cb (at b ∙ e ∙ sym (at (suc b))));
            input = λ a b t. (on a b t, input_along i h s ws full listed (on a b) t);
          }
