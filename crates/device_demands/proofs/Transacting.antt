-- Any number of data bytes over the bus are register writes one after the other, any number of fetches show the registers one after the other: from any well-formed
-- state of every lawful part, in any bus state. Assumes nothing.
use mathlib.Core.Path.{◌≡◌, refl, sym, ap, ap₂, subst, ◌∙◌}
use mathlib.Core.Bool.{Bool, true, false, cond}
use mathlib.Core.List.{List, [], ◌∷◌}
use Prim.Native.Nat.{ℕ, zero, suc, ◌+◌, ◌-◌, ◌*◌, ◌/◌, ◌%◌, ◌<◌}
use native.Mathlib.Nat.{mod-eq_of_lt, div-add-mod'}
use native.Mathlib.Omega.{arith}
use borrow.Author.Tests.{eq-eqb, ne_eqb, eqb-true, ltb-true, ltb-false}
use lib.Dec.{eqb, ltb}
use lib.ListN.{length}
use Rattle.bits.specs.Bits.{bit, tabulate}
use Rattle.bits.proofs.Laws.{bit_tabulate, bit_high, tabulate_lt, tabulate_ext}
use Rattle.pins.specs.OnePin.{status_of}
use Rattle.pins.specs.Pin.{status}
use Rattle.ports.specs.Ports.{byte_of}
use Rattle.map.specs.Map.{Part, Kind, first_of, kind_at, code, reserved, next_in, walked, register_count, file_fits}
use Rattle.map.specs.Map.Kind.{Status}
use Rattle.map.proofs.ByNumber.{kind_is}
use Rattle.registers.specs.Registers.{Core, one_pin, written, fetched, shown_as, shown}
use Rattle.registers.specs.Interrupt.{Interrupt, worked_out, shown_kept}
use Rattle.registers.proofs.Kept.{kept_written, kept_fetched}
use Rattle.device_rules.specs.Device.{Identity, State, Bus, Outcome, number, bus_at, state, out, goes, address_byte, rings_at_write, rings_at_fetch, shown_in, byte_in, fetch_in, start_in, step}
use Rattle.device_rules.specs.Refusals.{stepped}
use Rattle.device_rules.specs.Device.Bus.{Idle, Opened, Chosen, Filling, Sending, Call, Armed, Deaf, Asking, Named, Reopened, Telling}
use Rattle.device_rules.specs.Device.Event.{ByteSent}
use Rattle.device_rules.specs.declared.Answer.{Answer}
use Rattle.device_rules.specs.declared.Answer.TheVariants.{Nothing, Ack, Byte}
use Rattle.map.proofs.Onward.{known_small}
use Rattle.registers.proofs.Lawful.{Lawful, shown_place}
use Rattle.device_rules.proofs.Images.{start_taken, stop_taken, byte_taken_lem, fetch_taken}
use Rattle.device_demands.specs.Run.{Asked, after, answers}
use Rattle.device_demands.specs.Transactions.{rightly, START, STOP, sent, to_write, to_read, fetch as fetched-byte, sent_all, number_in, mode_in, write_all_over, Bytes, written_from, acks, fetched_all, read_all_on, read_all_over, shown_from, fetched_from}
use Rattle.device_demands.proofs.Keeps.{no_input, WellFormed, image_of, to, point_keeps, fill_keeps, fetch_keeps}

-- the rest of a run goes on from where its first event leads
pub on : (p : Part) (s : State) (e : Asked) (es : List Asked) (o : Outcome) → stepped p s e.kind e.arg ≡ o → after p s (e ∷ es) ≡ after p o.after es
unfolding after
on p s e es o q = ap (λ (o : Outcome). after p o.after es) q

pub ended : (p : Part) (s : State) → after p s [] ≡ s
unfolding after
ended p s = refl

-- and its answers from what the first event is answered
pub answers_on : (p : Part) (s : State) (e : Asked) (es : List Asked) (o : Outcome) → stepped p s e.kind e.arg ≡ o → answers p s (e ∷ es) ≡ o.answer ∷ answers p o.after es
unfolding answers
answers_on p s e es o q = ap (λ (o : Outcome). o.answer ∷ answers p o.after es) q

pub answers_ended : (p : Part) (s : State) → answers p s [] ≡ []
unfolding answers
answers_ended p s = refl

-- ---- what is kept right
-- a state is known by its registers and pins, where its status set and line are right
righted : (p : Part) (s : State) → WellFormed p s → (n mode b : ℕ) → state s.regs s.interrupt n mode b s.choice s.id ≡ rightly p s.regs n mode b s.choice s.id
righted p s g n mode b = ap (λ (k : Interrupt). state s.regs k n mode b s.choice s.id) g.sound.right

-- interrupt status, kept right, shows what the rules work out: a place of the last port that is no pin is no input, so that its bit is 0 in both
module _ (p : Part) (ok : Lawful p) (r : Core) (fits : file_fits p r.file ≡ true) where
  status_bit : (i : ℕ) → i < 8 * p.ports → bit (tabulate p.width (λ i. status_of (one_pin p r i))) i ≡ status_of (one_pin p r i)
  unfolding status
  status_bit i h = go (ltb i p.width) refl
    where
      go : (t : Bool) → ltb i p.width ≡ t → bit (tabulate p.width (λ i. status_of (one_pin p r i))) i ≡ status_of (one_pin p r i)
      go true e = bit_tabulate p.width (λ i. status_of (one_pin p r i)) i (ltb-true i p.width e)
      go false e =
          bit_high p.width (tabulate p.width (λ i. status_of (one_pin p r i))) i (tabulate_lt p.width _) (ltb-false i p.width e)
          ∙ sym (simp (no_input p ok r fits i h e))

  pub shown_right : (n : ℕ) → n < 128 → shown_kept p (kind_at p n) r (worked_out p r) n ≡ shown p r n
  unfolding shown_kept worked_out shown_as
  shown_right n hn = go (eqb (code (kind_at p n)) (code Status)) refl
    where
      k : ℕ
      k = n - first_of p Status

      its_status : kind_at p n ≡ Status → byte_of k (λ i. status_of (one_pin p r i)) ≡ shown p r n
      its_status e = ap (λ (k : Kind). shown_as p k r n) (sym e)

      go : (t : Bool) → eqb (code (kind_at p n)) (code Status) ≡ t
          → cond t (byte_of k (bit (tabulate p.width (λ i. status_of (one_pin p r i))))) (shown p r n) ≡ shown p r n
      go true e =
          let is = kind_is (kind_at p n) 2 (sym (eqb-true _ _ e)) in
          let h = (shown_place p ok Status refl n hn is).0 in
          tabulate_ext 8 (λ j l. status_bit (8 * k + j) (omega arith)) ∙ its_status is
      go false e = refl

-- ---- each event of a transaction
-- START leads to Opened or Reopened, and in both an address byte is taken
pub ready : (P : Bus → Type 0) → P Opened → P Reopened → (k : Bus) → P (start_in k)
unfolding start_in
ready P a b Named = b
ready P a b Reopened = b
ready P a b Idle = a
ready P a b Opened = a
ready P a b Chosen = a
ready P a b Filling = a
ready P a b Sending = a
ready P a b Call = a
ready P a b Armed = a
ready P a b Deaf = a
ready P a b Asking = a
ready P a b Telling = a

abbrev pub opened : State → State
opened s = goes s (start_in (bus_at s.bus))

module _ (p : Part) (ok : Lawful p) (s : State) (g : WellFormed p s) where
  pub start : stepped p s 0 0 ≡ out Nothing (opened s)
  unfolding step
  start = sym (start_taken p s 0 (image_of p s g.sound))

  pub stop : eqb s.bus (number Armed) ≡ false → stepped p s 1 0 ≡ out Nothing (goes s Idle)
  unfolding step
  stop e = sym (stop_taken p s 0 (image_of p s g.sound)) ∙ simp e

  pub sent_byte : (b : ℕ) → b < 256 → stepped p s 2 b ≡ step p s (ByteSent b)
  sent_byte b h = sym (byte_taken_lem p s b (image_of p s g.sound) h)

  abbrev after_data : ℕ → Interrupt → State
  after_data v k = state (written p s.regs s.pointer v) k (next_in p s.mode s.pointer) s.mode (number Filling) s.choice s.id

  rung : (v : ℕ) → rings_at_write p s v ≡ worked_out p (written p s.regs s.pointer v)
  rung v = kept_written p s.regs s.interrupt g.sound.right ok.mapped g.full s.pointer g.sound.pointer_small v

  -- a data byte in Filling
  pub data_byte : s.bus ≡ number Filling → (v : ℕ) → v < 256
      → stepped p s 2 v ≡ out Ack (rightly p (written p s.regs s.pointer v) (next_in p s.mode s.pointer) s.mode (number Filling) s.choice s.id)
  unfolding step byte_in
  data_byte e v h = sent_byte v h ∙ simp e (ap (λ (k : Interrupt). out Ack (after_data v k)) (rung v))

  data_kept : s.bus ≡ number Filling → (v : ℕ) → WellFormed p (rightly p (written p s.regs s.pointer v) (next_in p s.mode s.pointer) s.mode (number Filling) s.choice s.id)
  unfolding byte_in
  data_kept e v = subst (λ (k : Interrupt). WellFormed p (after_data v k)) (rung v) (fill_keeps p ok s g v)

module _ (p : Part) (ok : Lawful p) (s : State) (g : WellFormed p s) where
  abbrev Taken : (b : ℕ) → State → Bus → Type 0
  Taken b t k = stepped p (goes s k) 2 b ≡ out Ack t

  pub to_write_lem : stepped p (opened s) 2 (address_byte s) ≡ out Ack (goes s Chosen)
  unfolding step byte_in
  to_write_lem = ready (Taken (address_byte s) (goes s Chosen)) in_opened in_reopened (bus_at s.bus)
    where
      in_opened : Taken (address_byte s) (goes s Chosen) Opened
      in_opened =
          sent_byte p ok (goes s Opened) (to p ok s g Opened) (address_byte s) (omega (arith, g.sound.choice_small)) ∙ simp (eq-eqb (address_byte s) (address_byte s) refl)

      in_reopened : Taken (address_byte s) (goes s Chosen) Reopened
      in_reopened =
          sent_byte p ok (goes s Reopened) (to p ok s g Reopened) (address_byte s) (omega (arith, g.sound.choice_small))
          ∙ simp (ne_eqb (address_byte s) 0xf9 (λ e. omega (arith, g.sound.choice_small, e)), eq-eqb (address_byte s) (address_byte s) refl)

  to_read_lem : stepped p (opened s) 2 (address_byte s + 1) ≡ out Ack (goes s Sending)
  unfolding step byte_in
  to_read_lem = ready (Taken (address_byte s + 1) (goes s Sending)) in_opened in_reopened (bus_at s.bus)
    where
      in_opened : Taken (address_byte s + 1) (goes s Sending) Opened
      in_opened =
          sent_byte p ok (goes s Opened) (to p ok s g Opened) (address_byte s + 1) (omega (arith, g.sound.choice_small))
          ∙ simp (ne_eqb (address_byte s + 1) (address_byte s) (λ e. omega arith), eq-eqb (address_byte s + 1) (address_byte s + 1) refl)

      in_reopened : Taken (address_byte s + 1) (goes s Sending) Reopened
      in_reopened =
          sent_byte p ok (goes s Reopened) (to p ok s g Reopened) (address_byte s + 1) (omega (arith, g.sound.choice_small))
          ∙ simp (ne_eqb (address_byte s + 1) 0xf9 (λ e. omega (arith, g.sound.choice_small, e)), ne_eqb (address_byte s + 1) (address_byte s) (λ e. omega arith), eq-eqb (address_byte s + 1) (address_byte s + 1) refl)

  -- the state after START, the address byte and the command c
  abbrev pub filling : ℕ → State
  filling c = state s.regs s.interrupt (number_in c) (mode_in c) (number Filling) s.choice s.id

  module _ (c : ℕ) (small : c < 256) (known : reserved p (number_in c) ≡ false) where
    pub command : stepped p (goes s Chosen) 2 c ≡ out Ack (filling c)
    unfolding step byte_in
    command = sent_byte p ok (goes s Chosen) (to p ok s g Chosen) c small ∙ simp known

    pub fills : WellFormed p (filling c)
    fills = point_keeps p ok (goes s Chosen) (to p ok s g Chosen) c false known

-- ---- writes
-- data bytes and STOP, in Filling
module _ (p : Part) (ok : Lawful p) (mode choice : ℕ) (id : Identity) where
  abbrev Filled : Core → ℕ → State
  Filled r n = rightly p r n mode (number Filling) choice id

  fill_all : (r : Core) (n : ℕ) → WellFormed p (Filled r n) → (vs : List ℕ) → Bytes vs
      → after p (Filled r n) (sent_all vs) ≡ rightly p (written_from p mode r n vs) (walked p mode n (length vs)) mode (number Idle) choice id
  unfolding written_from walked
  fill_all r n g [] b = on p (Filled r n) STOP [] _ (stop p ok (Filled r n) g refl) ∙ ended p _
  fill_all r n g (v ∷ vs) b =
      on p (Filled r n) (sent v) _ _ (data_byte p ok (Filled r n) g refl v b.0)
      ∙ fill_all (written p r n v) (next_in p mode n) (data_kept p ok (Filled r n) g refl v) vs b.1

  fill_answers : (r : Core) (n : ℕ) → WellFormed p (Filled r n) → (vs : List ℕ) → Bytes vs
      → answers p (Filled r n) (sent_all vs) ≡ acks vs (Nothing ∷ [])
  fill_answers r n g [] b = answers_on p (Filled r n) STOP [] _ (stop p ok (Filled r n) g refl) ∙ ap (λ (l : List Answer). Nothing ∷ l) (answers_ended p _)
  fill_answers r n g (v ∷ vs) b =
      answers_on p (Filled r n) (sent v) _ _ (data_byte p ok (Filled r n) g refl v b.0)
      ∙ ap (λ (l : List Answer). Ack ∷ l) (fill_answers (written p r n v) (next_in p mode n) (data_kept p ok (Filled r n) g refl v) vs b.1)

module _ (p : Part) (ok : Lawful p) (s : State) (g : WellFormed p s) (c : ℕ) (small : c < 256) (known : reserved p (number_in c) ≡ false) where
  -- START, address byte, command, data bytes, STOP leave the registers written one after the other, Idle, the pointer stepped as often by the command's mode, which stays
  pub bus_writes : (vs : List ℕ) → Bytes vs
      → after p s (write_all_over s.choice c vs)
      ≡ rightly p (written_from p (mode_in c) s.regs (number_in c) vs) (walked p (mode_in c) (number_in c) (length vs)) (mode_in c) (number Idle) s.choice s.id
  bus_writes vs b =
      on p s START _ _ (start p ok s g) ∙ on p (opened s) (to_write s.choice) _ _ (to_write_lem p ok s g) ∙ on p (goes s Chosen) (sent c) _ _ (command p ok s g c small known)
      ∙ ap (λ (t : State). after p t (sent_all vs)) (righted p s g (number_in c) (mode_in c) (number Filling))
      ∙ fill_all p ok (mode_in c) s.choice s.id s.regs (number_in c) (subst (WellFormed p) (righted p s g (number_in c) (mode_in c) (number Filling)) (fills p ok s g c small known)) vs b

  -- and each of them is acknowledged
  pub bus_writes_answers : (vs : List ℕ) → Bytes vs → answers p s (write_all_over s.choice c vs) ≡ Nothing ∷ Ack ∷ Ack ∷ acks vs (Nothing ∷ [])
  bus_writes_answers vs b =
      answers_on p s START _ _ (start p ok s g)
      ∙ ap (λ (l : List Answer). Nothing ∷ l)
      (answers_on p (opened s) (to_write s.choice) _ _ (to_write_lem p ok s g)
      ∙ ap (λ (l : List Answer). Ack ∷ l)
      (answers_on p (goes s Chosen) (sent c) _ _ (command p ok s g c small known)
      ∙ ap (λ (l : List Answer). Ack ∷ l)
      (ap (λ (t : State). answers p t (sent_all vs)) (righted p s g (number_in c) (mode_in c) (number Filling))
      ∙ fill_answers p ok (mode_in c) s.choice s.id s.regs (number_in c) (subst (WellFormed p) (righted p s g (number_in c) (mode_in c) (number Filling)) (fills p ok s g c small known)) vs b)))

-- ---- reads
-- fetches and STOP, in Sending
module _ (p : Part) (ok : Lawful p) (mode choice : ℕ) (id : Identity) where
  abbrev Sent : Core → ℕ → State
  Sent r n = rightly p r n mode (number Sending) choice id

  abbrev Left : Core → ℕ → State
  Left r n = rightly p r n mode (number Deaf) choice id

  module _ (r : Core) (n : ℕ) (g : WellFormed p (Sent r n)) where
    settled : rings_at_fetch p (Sent r n) ≡ worked_out p (fetched p r n)
    settled = kept_fetched p r (worked_out p r) refl n

    shows : shown_in p (Sent r n) n ≡ shown p r n
    shows = shown_right p ok r g.sound.file_fits_lem n g.sound.pointer_small

    fetch_on : stepped p (Sent r n) 3 1 ≡ out (Byte (shown p r n)) (Sent (fetched p r n) (next_in p mode n))
    unfolding step fetch_in
    fetch_on =
        sym (fetch_taken p (Sent r n) 1 (image_of p (Sent r n) g.sound) (omega arith))
        ∙ ap₂ (λ (b : ℕ) (k : Interrupt). out (Byte b) (state (fetched p r n) k (next_in p mode n) mode (number Sending) choice id)) shows settled

    fetch_last : stepped p (Sent r n) 3 0 ≡ out (Byte (shown p r n)) (Left (fetched p r n) n)
    unfolding step fetch_in
    fetch_last =
        sym (fetch_taken p (Sent r n) 0 (image_of p (Sent r n) g.sound) (omega arith))
        ∙ ap₂ (λ (b : ℕ) (k : Interrupt). out (Byte b) (state (fetched p r n) k n mode (number Deaf) choice id)) shows settled

    on_kept : WellFormed p (Sent (fetched p r n) (next_in p mode n))
    unfolding fetch_in
    on_kept = subst (λ (k : Interrupt). WellFormed p (state (fetched p r n) k (next_in p mode n) mode (number Sending) choice id)) settled (fetch_keeps p ok (Sent r n) g true)

    last_kept : WellFormed p (Left (fetched p r n) n)
    unfolding fetch_in
    last_kept = subst (λ (k : Interrupt). WellFormed p (state (fetched p r n) k n mode (number Deaf) choice id)) settled (fetch_keeps p ok (Sent r n) g false)

  fetch_all : (r : Core) (n : ℕ) → WellFormed p (Sent r n) → (more : ℕ)
      → after p (Sent r n) (fetched_all more) ≡ rightly p (fetched_from p mode r n more) (walked p mode n more) mode (number Idle) choice id
  unfolding fetched_from walked
  fetch_all r n g zero =
      on p (Sent r n) (fetched-byte false) _ _ (fetch_last r n g)
      ∙ on p (Left (fetched p r n) n) STOP [] _ (stop p ok (Left (fetched p r n) n) (last_kept r n g) refl) ∙ ended p _
  fetch_all r n g (suc more) =
      on p (Sent r n) (fetched-byte true) _ _ (fetch_on r n g) ∙ fetch_all (fetched p r n) (next_in p mode n) (on_kept r n g) more

  fetch_answers : (r : Core) (n : ℕ) → WellFormed p (Sent r n) → (more : ℕ) → answers p (Sent r n) (fetched_all more) ≡ shown_from p mode r n more (Nothing ∷ [])
  unfolding shown_from
  fetch_answers r n g zero =
      answers_on p (Sent r n) (fetched-byte false) _ _ (fetch_last r n g)
      ∙ ap (λ (l : List Answer). Byte (shown p r n) ∷ l)
      (answers_on p (Left (fetched p r n) n) STOP [] _ (stop p ok (Left (fetched p r n) n) (last_kept r n g) refl) ∙ ap (λ (l : List Answer). Nothing ∷ l) (answers_ended p _))
  fetch_answers r n g (suc more) =
      answers_on p (Sent r n) (fetched-byte true) _ _ (fetch_on r n g)
      ∙ ap (λ (l : List Answer). Byte (shown p r n) ∷ l) (fetch_answers (fetched p r n) (next_in p mode n) (on_kept r n g) more)

module _ (p : Part) (ok : Lawful p) (s : State) (g : WellFormed p s) where
  -- START, address byte plus 1, fetches: the bytes from the pointer on
  pub bus_reads_on : (more : ℕ)
      → after p s (read_all_on s.choice more) ≡ rightly p (fetched_from p s.mode s.regs s.pointer more) (walked p s.mode s.pointer more) s.mode (number Idle) s.choice s.id
  bus_reads_on more =
      on p s START _ _ (start p ok s g) ∙ on p (opened s) (to_read s.choice) _ _ (to_read_lem p ok s g)
      ∙ ap (λ (t : State). after p t (fetched_all more)) (righted p s g s.pointer s.mode (number Sending))
      ∙ fetch_all p ok s.mode s.choice s.id s.regs s.pointer (subst (WellFormed p) (righted p s g s.pointer s.mode (number Sending)) (to p ok s g Sending)) more

  pub bus_reads_on_answers : (more : ℕ)
      → answers p s (read_all_on s.choice more) ≡ Nothing ∷ Ack ∷ shown_from p s.mode s.regs s.pointer more (Nothing ∷ [])
  bus_reads_on_answers more =
      answers_on p s START _ _ (start p ok s g)
      ∙ ap (λ (l : List Answer). Nothing ∷ l)
      (answers_on p (opened s) (to_read s.choice) _ _ (to_read_lem p ok s g)
      ∙ ap (λ (l : List Answer). Ack ∷ l)
      (ap (λ (t : State). answers p t (fetched_all more)) (righted p s g s.pointer s.mode (number Sending))
      ∙ fetch_answers p ok s.mode s.choice s.id s.regs s.pointer (subst (WellFormed p) (righted p s g s.pointer s.mode (number Sending)) (to p ok s g Sending)) more))

-- a command first: the bytes from its register on, by its mode
module _ (p : Part) (ok : Lawful p) (s : State) (g : WellFormed p s) (c : ℕ) (small : c < 256) (known : reserved p (number_in c) ≡ false) (more : ℕ) where
  pub bus_reads : after p s (read_all_over s.choice c more)
      ≡ rightly p (fetched_from p (mode_in c) s.regs (number_in c) more) (walked p (mode_in c) (number_in c) more) (mode_in c) (number Idle) s.choice s.id
  bus_reads =
      on p s START _ _ (start p ok s g) ∙ on p (opened s) (to_write s.choice) _ _ (to_write_lem p ok s g) ∙ on p (goes s Chosen) (sent c) _ _ (command p ok s g c small known)
      ∙ bus_reads_on p ok (filling p ok s g c) (fills p ok s g c small known) more

  pub bus_reads_answers : answers p s (read_all_over s.choice c more)
      ≡ Nothing ∷ Ack ∷ Ack ∷ Nothing ∷ Ack ∷ shown_from p (mode_in c) s.regs (number_in c) more (Nothing ∷ [])
  bus_reads_answers =
      answers_on p s START _ _ (start p ok s g)
      ∙ ap (λ (l : List Answer). Nothing ∷ l)
      (answers_on p (opened s) (to_write s.choice) _ _ (to_write_lem p ok s g)
      ∙ ap (λ (l : List Answer). Ack ∷ l)
      (answers_on p (goes s Chosen) (sent c) _ _ (command p ok s g c small known)
      ∙ ap (λ (l : List Answer). Ack ∷ l) (bus_reads_on_answers p ok (filling p ok s g c) (fills p ok s g c small known) more)))

-- ---- a command with bit 7 clear
-- is the number itself, and its mode is 0
pub clear_number : (p : Part) (n : ℕ) → reserved p n ≡ false → number_in n ≡ n
clear_number p n known = let h : n < 128 = known_small p n known in mod-eq_of_lt h

pub clear_mode : (p : Part) (n : ℕ) → reserved p n ≡ false → mode_in n ≡ 0
clear_mode p n known =
    let h : n < 128 = known_small p n known in
    let q : n / 128 ≡ 0 = omega (arith, div-add-mod' n 128) in
    ap (λ (m : ℕ). m % 2) q

-- ---- over the whole map
-- after as many data bytes as the part has registers, written or fetched in mode 1, the pointer is where it was
pub full_round : (p : Part) → Lawful p → (n : ℕ) → reserved p n ≡ false → walked p 1 n (register_count p) ≡ n
full_round p ok n known = eqb-true _ n (simp known at (ok.rounds n (known_small p n known)))
