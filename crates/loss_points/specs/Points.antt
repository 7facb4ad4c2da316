-- The bench points of the loss marks, one table: what is done from the supervisor's power-on, and what must be seen.
use Rattle.std.specs.Prelude.{Bool, true, false, ◌&&◌, List, [], ◌∷◌, ◌++◌, ℕ, eqb}
use Rattle.map.specs.Map.{Part, part24, part34}
use Rattle.device_demands.specs.Transactions.{ask, START, STOP, sent, write_over, read_over}
use Rattle.loss_rules.specs.Marks.{marks_refused, sign_off}
use Rattle.loss_demands.specs.Watched.{Act, Watched, powered_on, after_all, acts_of}
use Rattle.loss_demands.specs.Watched.Act.{SignOff}

pub data Point : Type 0 where
  -- acts from power-on at address choice 0 with all levels 0 and these healthy levels; the marks after them
  marked : Part → (healthy : ℕ) → List Act → (set : ℕ) → Point
  -- then a sign-off of this pin; its refusal, and the marks after it
  signed : Part → (healthy : ℕ) → List Act → (pin : ℕ) → (refusal set : ℕ) → Point
  -- marks are made with these healthy levels; the refusal
  made : Part → (healthy : ℕ) → (refusal : ℕ) → Point

abbrev pub after : Part → (healthy : ℕ) → List Act → Watched
after p healthy acts = after_all p (powered_on p 0 0 0 healthy) acts

abbrev pub holds : Point → Bool
holds (marked p healthy acts set) = eqb (after p healthy acts).marks.set set
holds (signed p healthy acts pin refusal set) =
    eqb (sign_off p (after p healthy acts).device (after p healthy acts).marks pin).refusal refusal
    && eqb (sign_off p (after p healthy acts).device (after p healthy acts).marks pin).marks.set set
holds (made p healthy refusal) = eqb (marks_refused p healthy) refusal

abbrev pub all : List Point → Bool
all [] = true
all (c ∷ cs) = holds c && all cs

-- ---- what is done
-- register n is written with v; input port 0 is fetched; the levels become l
abbrev pub write : (n v : ℕ) → List Act
write n v = acts_of (write_over 0 n v)

abbrev pub fetch_port0 : List Act
fetch_port0 = acts_of (read_over 0 0x00 false)

abbrev pub levels : ℕ → List Act
levels l = acts_of (ask 4 l ∷ [])

-- the general call with its software reset, and the hardware's
abbrev pub software_reset : List Act
software_reset = acts_of (START ∷ sent 0x00 ∷ sent 0x06 ∷ STOP ∷ [])

abbrev pub hardware_reset : List Act
hardware_reset = acts_of (ask 5 0 ∷ [])

abbrev pub sign : (pin : ℕ) → List Act
sign pin = SignOff pin ∷ []

-- pin 0 signed off, unmasked, and then lost
abbrev pub unmask : List Act
unmask = write 0x54 0xfe

abbrev pub lost : List Act
lost = sign 0 ++ unmask ++ levels 1

-- ---- the table
abbrev pub incident : List Point
incident =
    -- nothing is known of any pin; a healthy and quiet one can be signed off
    marked part24 0 [] 0xff_ffff
    ∷ marked part24 0 (sign 0) 0xff_fffe
    -- the fibre opens; while it is open nobody signs it off
    ∷ marked part24 0 lost 0xff_ffff
    ∷ signed part24 0 lost 0 13 0xff_ffff
    -- the reset makes INT quiet, and the mark is still there
    ∷ marked part24 0 (lost ++ software_reset) 0xff_ffff
    ∷ marked part24 0 (lost ++ hardware_reset) 0xff_ffff
    ∷ signed part24 0 (lost ++ software_reset) 0 13 0xff_ffff
    -- it closes, and that rings; fetched, it is quiet and healthy
    ∷ signed part24 0 (lost ++ software_reset ++ unmask ++ levels 0) 0 13 0xff_ffff
    ∷ signed part24 0 (lost ++ software_reset ++ unmask ++ levels 0 ++ fetch_port0) 0 0 0xff_fffe
    -- a fetch clears no mark
    ∷ marked part24 0 (lost ++ fetch_port0) 0xff_ffff
    ∷ []

abbrev pub rules : List Point
rules =
    -- a pin that is not unmasked rings nothing, and its mark stays clear
    marked part24 0 (sign 0 ++ levels 1) 0xff_fffe
    -- signed off again it is judged all the same
    ∷ signed part24 0 (sign 0 ++ levels 1) 0 13 0xff_fffe
    -- the healthy level may be 1
    ∷ signed part24 1 [] 0 13 0xff_ffff
    ∷ signed part24 1 (levels 1) 0 0 0xff_fffe
    -- the raw level counts, whatever the polarity
    ∷ signed part24 0 (write 0x08 0xff) 0 0 0xff_fffe
    -- an output has no status bit
    ∷ signed part24 0 (unmask ++ levels 1 ++ write 0x0c 0xfe ++ levels 0) 0 0 0xff_fffe
    -- the last pins, and those past them: 2 before 13
    ∷ signed part24 0 [] 23 0 0x7f_ffff
    ∷ signed part24 0 [] 24 2 0xff_ffff
    ∷ signed part24 0xff_ffff [] 24 2 0xff_ffff
    ∷ signed part34 0 [] 33 0 0x1_ffff_ffff
    ∷ signed part34 0 [] 34 2 0x3_ffff_ffff
    ∷ signed part34 0x3_ffff_ffff [] 33 13 0x3_ffff_ffff
    -- made
    ∷ made part24 0xff_ffff 0
    ∷ made part24 0x100_0000 2
    ∷ made part34 0x3_ffff_ffff 0
    ∷ made part34 0x4_0000_0000 2
    ∷ []

abbrev pub points : List Point
points = incident ++ rules
