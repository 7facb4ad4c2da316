-- The bench points of both devices and the planner, one table: what is done, what one looks at, and what must be seen.
use Rattle.std.specs.Prelude.{Bool, true, false, ◌&&◌, List, [], ◌∷◌, ◌++◌, ℕ, ◌+◌, ◌-◌, ◌*◌, ◌%◌, ◌^◌, min, eqb, get_or, set, length}
use Rattle.bits.specs.Bits.{val}
use Rattle.map.specs.Map.{Part, part_of, entries}
use Rattle.registers.specs.Registers.{core, driven_low, driven_high, int_asserted}
use Rattle.device_rules.specs.Device.{State, Outcome, identity, state, out}
use Rattle.device_rules.specs.Refusals.{stepped}
use Rattle.device_rules.specs.Answers.{answer_kind, answer_byte, refusal_number}
use Rattle.device_rules.specs.declared.Answer.TheVariants.{Nothing}
use Rattle.device_rules.specs.PowerOn.{power_on, making_refused}
use Rattle.device_demands.specs.Run.{Asked}
use Rattle.planner_quiet.specs.Settings.{Settings}
use Rattle.planner_promise.specs.Answer.{Answer, answer_of}
use Rattle.planner_promise.specs.Answer.Answer.{refuse, give}
use Rattle.device_demands.specs.Transactions.{ask, START, STOP, sent, fetch, to_write, write_all_over, write_over, read_over, read_on, read_all_over}

-- the parts by their numbers
abbrev pub PART24 : ℕ
PART24 = 0

abbrev pub PART34 : ℕ
PART34 = 1

pub data Case : Type 0 where
  -- events on a device of the part from power-on at address choice 0 with all levels 0 and the Device ID 123456h; one looks at the last outcome
  case : (part : ℕ) → List Asked → (Part → Outcome → ℕ) → (seen : ℕ) → Case
  -- a device of the part is made with these levels and this Device ID; one looks at the refusal
  made : (part : ℕ) → (levels id : ℕ) → (refusal : ℕ) → Case
  -- an image of the part at power-on, changed, is asked a START; one looks at the refusal
  image : (part : ℕ) → (State → State) → (refusal : ℕ) → Case
  -- a start, a goal and a buffer of so many bytes; one looks at the answer of the part's planner
  planned : (part : ℕ) → (start goal : Settings) → (room : ℕ) → (Answer → ℕ) → (seen : ℕ) → Case

-- the last outcome
abbrev pub last : Part → Outcome → List Asked → Outcome
last p o [] = o
last p o (e ∷ es) = last p (stepped p o.after e.kind e.arg) es

-- where the events begin
abbrev pub begun : Part → Outcome
begun p = out Nothing (power_on p 0 0 0x123456)

abbrev pub holds : Case → Bool
holds (case part events look seen) = eqb (look (part_of part) (last (part_of part) (begun (part_of part)) events)) seen
holds (made part levels id refusal) = eqb (making_refused (part_of part) 0 levels id) refusal
holds (image part change refusal) = eqb (refusal_number (stepped (part_of part) (change (begun (part_of part)).after) 0 0).answer) refusal
holds (planned part start goal room look seen) = eqb (look (answer_of (part_of part) start goal room)) seen

abbrev pub all : List Case → Bool
all [] = true
all (c ∷ cs) = holds c && all cs

-- register n is written with v; the levels become l
abbrev pub write : (n v : ℕ) → List Asked
write n v = write_over 0 n v

abbrev pub levels : ℕ → Asked
levels l = ask 4 l

-- what one looks at
abbrev pub answer_is : Part → Outcome → ℕ
answer_is p o = answer_kind o.answer

abbrev pub byte_is : Part → Outcome → ℕ
byte_is p o = answer_byte o.answer

-- the number of the event's refusal, 0 where there is none
abbrev pub refused_is : Part → Outcome → ℕ
refused_is p o = refusal_number o.answer

abbrev pub pointer_is : Part → Outcome → ℕ
pointer_is p o = o.after.pointer

abbrev pub mode_is : Part → Outcome → ℕ
mode_is p o = o.after.mode

-- 1 if INT is asserted
abbrev pub int_is : Part → Outcome → ℕ
int_is p o = val (int_asserted p o.after.regs)

-- what is kept of the interrupt: the status set, and the line, 0 asserted
abbrev pub kept_status_is : Part → Outcome → ℕ
kept_status_is p o = o.after.interrupt.status

abbrev pub kept_line_is : Part → Outcome → ℕ
kept_line_is p o = o.after.interrupt.line

abbrev pub high_is : Part → Outcome → ℕ
high_is p o = driven_high p o.after.regs

abbrev pub low_is : Part → Outcome → ℕ
low_is p o = driven_low p o.after.regs

abbrev pub register_is : ℕ → Part → Outcome → ℕ
register_is n p o = get_or o.after.regs.file n 0

-- an image whose register n holds v, and one whose levels are l
abbrev pub holding : (n v : ℕ) → State → State
holding n v s = state (core (set s.regs.file n v) s.regs.sets) s.interrupt s.pointer s.mode s.bus s.choice s.id

abbrev pub levelled : (l : ℕ) → State → State
levelled l s =
    state (core s.regs.file (record { level = l; reference = l; held = 0; edge = 0 })) s.interrupt s.pointer s.mode s.bus s.choice s.id

-- an image in the bus state b, and one with another Device ID
abbrev pub in_bus : (b : ℕ) → State → State
in_bus b s = state s.regs s.interrupt s.pointer s.mode b s.choice s.id

abbrev pub identified_by : (number place : ℕ) → State → State
identified_by number place s = state s.regs s.interrupt s.pointer s.mode s.bus s.choice (identity number place)

-- the question for the Device ID up to START again, and up to the question to tell
abbrev pub named : List Asked
named = START ∷ sent 0xf8 ∷ sent 0x40 ∷ START ∷ []

abbrev pub telling : List Asked
telling = named ++ (sent 0xf9 ∷ [])

-- the number of the planner's refusal, 0 where a plan is given; and the number of its writes
abbrev pub refusal_is : Answer → ℕ
refusal_is (refuse n) = n
refusal_is (give ws) = 0

abbrev pub count_is : Answer → ℕ
count_is (refuse n) = 0
count_is (give ws) = length ws

-- settings of port 0 of the 24-pin part, every pin of the other ports an input with output 1 and kinds 0
abbrev pub port0 : (output configuration port_kind pin_kind : ℕ) → Settings
port0 output configuration port_kind pin_kind =
    output ∷ 0xff ∷ 0xff ∷ configuration ∷ 0xff ∷ 0xff ∷ port_kind ∷ pin_kind ∷ 0x00 ∷ 0x00 ∷ []

-- and of port 4 of the sister, which has two pins
abbrev pub port4 : (output configuration port_kind pin_kind : ℕ) → Settings
port4 output configuration port_kind pin_kind =
    0xff ∷ 0xff ∷ 0xff ∷ 0xff ∷ output ∷ 0xff ∷ 0xff ∷ 0xff ∷ 0xff ∷ configuration ∷ port_kind ∷ 0x00 ∷ 0x00 ∷ 0x00 ∷ 0x00 ∷ pin_kind ∷ []

-- v in the register of each port: of the last the bits that exist
abbrev pub each_port : Part → (v : ℕ) → Settings
each_port p v = entries (λ k. v % 2 ^ min 8 (p.width - 8 * k)) 0 p.ports

-- settings that are alike in every port
abbrev pub alike : (part : ℕ) → (output configuration portKinds pin_kind : ℕ) → Settings
alike part output configuration portKinds pin_kind =
    each_port (part_of part) output ++ (each_port (part_of part) configuration ++ (portKinds ∷ each_port (part_of part) pin_kind))

-- the command n and one data byte: the pointer has stepped once
abbrev pub stepped_from : ℕ → List Asked
stepped_from n = START ∷ to_write 0 ∷ sent n ∷ sent 0x00 ∷ []

-- the same with bit 7 of the command set: over the whole map
abbrev pub walked_from : ℕ → List Asked
walked_from n = stepped_from (0x80 + n)

-- 00 written to the five registers of a group of the sister
abbrev pub zeros : (n : ℕ) → List Asked
zeros n = write_all_over 0 n (0x00 ∷ 0x00 ∷ 0x00 ∷ 0x00 ∷ 0x00 ∷ [])

-- pin 0 an unmasked output
abbrev pub turned : List Asked
turned = write 0x0c 0xfe ++ write 0x54 0xfe

abbrev pub cases : List Case
cases =
    -- configuration 0, output 1, port kind 0, pin kind 1: released; port kind 1 too: high
    case PART24 (write 0x0c 0xfe ++ write 0x70 0x01) high_is 0x00_0000
    ∷ case PART24 (write 0x0c 0xfe ++ write 0x70 0x01) low_is 0x00_0000
    ∷ case PART24 (write 0x0c 0xfe ++ (write 0x70 0x01 ++ write 0x5c 0x01)) high_is 0x00_0001
    -- the pointer after 02 is 00; after 45, 40; after 65, 60; after 75, 74; after 5C, 5C
    ∷ case PART24 (stepped_from 0x02) pointer_is 0x00
    ∷ case PART24 (stepped_from 0x45) pointer_is 0x40
    ∷ case PART24 (stepped_from 0x65) pointer_is 0x60
    ∷ case PART24 (stepped_from 0x75) pointer_is 0x74
    ∷ case PART24 (stepped_from 0x5c) pointer_is 0x5c
    -- latched pin 0, 1, 0: the first fetch shows 1, the next 0
    ∷ case PART24 (write 0x48 0x01 ++ (levels 1 ∷ levels 0 ∷ read_over 0 0x00 false)) byte_is 0x01
    ∷ case PART24 (write 0x48 0x01 ++ ((levels 1 ∷ levels 0 ∷ read_over 0 0x00 false) ++ read_on 0 false)) byte_is 0x00
    -- unlatched: INT is asserted at 1 and quiet again at 0
    ∷ case PART24 (write 0x54 0xfe ++ (levels 1 ∷ [])) int_is 1
    ∷ case PART24 (write 0x54 0xfe ++ (levels 1 ∷ levels 0 ∷ [])) int_is 0
    -- rising field, latch 0, unmasked, 0, 1, 0: INT stays asserted; masked during it, unmasked after: quiet
    ∷ case PART24 (write 0x54 0xfe ++ (write 0x60 0x01 ++ (levels 1 ∷ levels 0 ∷ []))) int_is 1
    ∷ case PART24 (write 0x60 0x01 ++ (levels 1 ∷ levels 0 ∷ write 0x54 0xfe)) int_is 0
    -- pin 0 an unmasked output whose level moved, then an input: latched INT is asserted, and still after the level returns; unlatched while the level differs
    ∷ case PART24 (turned ++ (write 0x48 0x01 ++ (levels 1 ∷ write 0x0c 0xff))) int_is 1
    ∷ case PART24 (turned ++ (write 0x48 0x01 ++ ((levels 1 ∷ write 0x0c 0xff) ++ (levels 0 ∷ [])))) int_is 1
    ∷ case PART24 (turned ++ (levels 1 ∷ write 0x0c 0xff)) int_is 1
    ∷ case PART24 (turned ++ ((levels 1 ∷ write 0x0c 0xff) ++ (levels 0 ∷ []))) int_is 0
    -- the level back before the turn, or fetched while output: quiet; with an edge field: quiet
    ∷ case PART24 (turned ++ (write 0x48 0x01 ++ (levels 1 ∷ levels 0 ∷ write 0x0c 0xff))) int_is 0
    ∷ case PART24 (turned ++ (write 0x48 0x01 ++ ((levels 1 ∷ read_over 0 0x00 false) ++ write 0x0c 0xff))) int_is 0
    ∷ case PART24 (turned ++ (write 0x60 0x03 ++ (levels 1 ∷ write 0x0c 0xff))) int_is 0
    -- what is kept of the interrupt: quiet at power-on, asserted as the pin leaves its reference, quiet once it is fetched, masked or reset
    ∷ case PART24 [] kept_line_is 1
    ∷ case PART24 (write 0x54 0xfe ++ (levels 1 ∷ [])) kept_status_is 0x00_0001
    ∷ case PART24 (write 0x54 0xfe ++ (levels 1 ∷ [])) kept_line_is 0
    ∷ case PART24 (write 0x54 0xfe ++ (levels 1 ∷ read_over 0 0x58 false)) byte_is 0x01
    ∷ case PART24 (write 0x54 0xfe ++ (levels 1 ∷ read_over 0 0x00 false)) kept_line_is 1
    ∷ case PART24 (write 0x54 0xfe ++ (levels 1 ∷ write 0x54 0xff)) kept_status_is 0x00_0000
    ∷ case PART24 (write 0x54 0xfe ++ (levels 1 ∷ ask 5 0 ∷ [])) kept_line_is 1
    -- 00h, 06h, START, STOP: no reset; 00h, 06h, STOP: reset
    ∷ case PART24 (write 0x04 0x00 ++ (START ∷ sent 0x00 ∷ sent 0x06 ∷ START ∷ STOP ∷ [])) (register_is 0x04) 0x00
    ∷ case PART24 (write 0x04 0x00 ++ (START ∷ sent 0x00 ∷ sent 0x06 ∷ STOP ∷ [])) (register_is 0x04) 0xff
    -- command 03h: no acknowledge
    ∷ case PART24 (START ∷ to_write 0 ∷ sent 0x03 ∷ []) answer_is 2
    -- over the whole map: after 02 comes 04, after 0E 40, after 5C 60, after 76 00; in its group the pointer stays where bit 7 is clear
    ∷ case PART24 (walked_from 0x02) pointer_is 0x04
    ∷ case PART24 (walked_from 0x0e) pointer_is 0x40
    ∷ case PART24 (walked_from 0x5c) pointer_is 0x60
    ∷ case PART24 (walked_from 0x76) pointer_is 0x00
    -- a walk of writes passes a read-only register and settles by a clear register: of the bytes after 82h the second goes to 04, of those after E5h the second to 68
    ∷ case PART24 (write_all_over 0 0x82 (0xff ∷ 0x00 ∷ [])) (register_is 0x04) 0x00
    ∷ case PART24 (write 0x54 0xfe ++ (levels 1 ∷ write_all_over 0 0xe5 (0x00 ∷ 0x01 ∷ []))) kept_line_is 1
    -- a walk of reads settles each input port that it fetches
    ∷ case PART24 (write 0x54 0xfe ++ (levels 1 ∷ read_all_over 0 0xf6 1)) kept_line_is 1
    -- command 83h: no acknowledge, pointer and mode kept
    ∷ case PART24 (START ∷ to_write 0 ∷ sent 0x83 ∷ []) answer_is 2
    ∷ case PART24 (walked_from 0x02 ++ (START ∷ to_write 0 ∷ sent 0x03 ∷ [])) mode_is 1
    ∷ case PART24 (walked_from 0x02 ++ (START ∷ to_write 0 ∷ sent 0x03 ∷ [])) pointer_is 0x04
    ∷ case PART24 (stepped_from 0x02 ++ (START ∷ to_write 0 ∷ sent 0x83 ∷ [])) mode_is 0
    -- the mode is kept over STOP and START, cleared by a command without bit 7 and by each reset
    ∷ case PART24 (walked_from 0x02 ++ (STOP ∷ START ∷ [])) mode_is 1
    ∷ case PART24 (walked_from 0x02 ++ stepped_from 0x02) mode_is 0
    ∷ case PART24 (walked_from 0x02 ++ (ask 5 0 ∷ [])) mode_is 0
    ∷ case PART24 (walked_from 0x02 ++ (START ∷ sent 0x00 ∷ sent 0x06 ∷ STOP ∷ [])) mode_is 0
    -- the Device ID 123456h: F8h, our byte and, after the repeated START, F9h are acknowledged; its bytes, the highest first, and round again
    ∷ case PART24 (START ∷ sent 0xf8 ∷ []) answer_is 1
    ∷ case PART24 (START ∷ sent 0xf8 ∷ sent 0x40 ∷ []) answer_is 1
    ∷ case PART24 (START ∷ sent 0xf8 ∷ sent 0x41 ∷ []) answer_is 1
    ∷ case PART24 telling answer_is 1
    ∷ case PART24 (telling ++ (fetch true ∷ [])) byte_is 0x12
    ∷ case PART24 (telling ++ (fetch true ∷ fetch true ∷ [])) byte_is 0x34
    ∷ case PART24 (telling ++ (fetch true ∷ fetch true ∷ fetch true ∷ [])) byte_is 0x56
    ∷ case PART24 (telling ++ (fetch true ∷ fetch true ∷ fetch true ∷ fetch true ∷ [])) byte_is 0x12
    ∷ case PART34 (telling ++ (fetch true ∷ fetch true ∷ [])) byte_is 0x34
    -- a fetch without acknowledge ends it, and so does a byte
    ∷ case PART24 (telling ++ (fetch false ∷ fetch true ∷ [])) byte_is 0xff
    ∷ case PART24 (telling ++ (sent 0x40 ∷ fetch true ∷ [])) byte_is 0xff
    -- another device's byte, F9h first, F9h without START again: no acknowledge
    ∷ case PART24 (START ∷ sent 0xf8 ∷ sent 0x42 ∷ []) answer_is 2
    ∷ case PART24 (START ∷ sent 0xf9 ∷ []) answer_is 2
    ∷ case PART24 (START ∷ sent 0xf8 ∷ sent 0x40 ∷ sent 0xf9 ∷ []) answer_is 2
    -- STOP spoils it, a second START again does not; in Telling START is a first one
    ∷ case PART24 (START ∷ sent 0xf8 ∷ sent 0x40 ∷ STOP ∷ START ∷ sent 0xf9 ∷ []) answer_is 2
    ∷ case PART24 (named ++ (START ∷ sent 0xf9 ∷ [])) answer_is 1
    ∷ case PART24 (telling ++ (START ∷ sent 0xf9 ∷ [])) answer_is 2
    -- after START again any other byte is an address byte
    ∷ case PART24 (named ++ (sent 0x40 ∷ sent 0x04 ∷ sent 0x00 ∷ [])) (register_is 0x04) 0x00
    -- each telling begins at the first byte; each reset keeps the number; the pointer stays
    ∷ case PART24 (telling ++ (fetch true ∷ STOP ∷ telling) ++ (fetch true ∷ [])) byte_is 0x12
    ∷ case PART24 (ask 5 0 ∷ telling ++ (fetch true ∷ [])) byte_is 0x12
    ∷ case PART24 (START ∷ sent 0x00 ∷ sent 0x06 ∷ STOP ∷ telling ++ (fetch true ∷ [])) byte_is 0x12
    ∷ case PART24 (stepped_from 0x04 ++ (telling ++ (fetch true ∷ []))) pointer_is 0x05
    -- a Device ID of 24 bits passes, one of 25 is refused with 2; in an image it is broken, and so are a bus state over 11 and a place over 2
    ∷ made PART24 0 0xff_ffff 0
    ∷ made PART24 0 0x100_0000 2
    ∷ made PART34 0 0x100_0000 2
    ∷ image PART24 (identified_by 0xff_ffff 2) 0
    ∷ image PART24 (identified_by 0x100_0000 0) 3
    ∷ image PART24 (identified_by 0 3) 3
    ∷ image PART24 (in_bus 11) 0
    ∷ image PART24 (in_bus 12) 3
    -- the sister over the whole map: after 13 comes 30, after 5C 5E, after 6F 00
    ∷ case PART34 (walked_from 0x13) pointer_is 0x30
    ∷ case PART34 (walked_from 0x5c) pointer_is 0x5e
    ∷ case PART34 (walked_from 0x6f) pointer_is 0x00
    -- the sister: the pointer after 04 is 00; after 38, 30; after 5C, 54; after 62, 5E; after 6F, 6D, debounce being one group; after 53, 53
    ∷ case PART34 (stepped_from 0x04) pointer_is 0x00
    ∷ case PART34 (stepped_from 0x38) pointer_is 0x30
    ∷ case PART34 (stepped_from 0x5c) pointer_is 0x54
    ∷ case PART34 (stepped_from 0x62) pointer_is 0x5e
    ∷ case PART34 (stepped_from 0x6e) pointer_is 0x6f
    ∷ case PART34 (stepped_from 0x6f) pointer_is 0x6d
    ∷ case PART34 (stepped_from 0x53) pointer_is 0x53
    -- its reserved commands 14 and 5D: no acknowledge
    ∷ case PART34 (START ∷ to_write 0 ∷ sent 0x14 ∷ []) answer_is 2
    ∷ case PART34 (START ∷ to_write 0 ∷ sent 0x5d ∷ []) answer_is 2
    -- after a reset 09, 13, 48 and 4D read 03, port 4 having two pins, and 38 reads 0F
    ∷ case PART34 (read_over 0 0x09 false) byte_is 0x03
    ∷ case PART34 (read_over 0 0x13 false) byte_is 0x03
    ∷ case PART34 (read_over 0 0x48 false) byte_is 0x03
    ∷ case PART34 (read_over 0 0x4d false) byte_is 0x03
    ∷ case PART34 (read_over 0 0x38 false) byte_is 0x0f
    ∷ case PART34 (read_over 0 0x08 false) byte_is 0xff
    -- bits that do not exist are ignored on write and read 0
    ∷ case PART34 (write 0x13 0xff ++ read_over 0 0x13 false) byte_is 0x03
    ∷ case PART34 (write 0x0e 0xfe ++ read_over 0 0x0e false) byte_is 0x02
    ∷ case PART34 (write 0x38 0xf5 ++ read_over 0 0x38 false) byte_is 0x05
    ∷ case PART34 (write 0x5c 0xfa ++ read_over 0 0x5c false) byte_is 0x0a
    ∷ case PART34 (write 0x53 0xff ++ read_over 0 0x53 false) byte_is 0x1f
    ∷ case PART34 (write 0x6f 0xff ++ read_over 0 0x6f false) byte_is 0xff
    -- every pin an output of 0, or of 1: 34 pins are driven and no more
    ∷ case PART34 (zeros 0x05 ++ zeros 0x0f) low_is 0x3_ffff_ffff
    ∷ case PART34 (zeros 0x0f) high_is 0x3_ffff_ffff
    -- pin 33, the last: driven low, shown at its level, and asserting INT
    ∷ case PART34 (write 0x09 0x01 ++ write 0x13 0x01) low_is 0x2_0000_0000
    ∷ case PART34 (levels 0x2_0000_0000 ∷ read_over 0 0x04 false) byte_is 0x02
    ∷ case PART34 (write 0x4d 0x01 ++ (levels 0x2_0000_0000 ∷ [])) kept_status_is 0x2_0000_0000
    ∷ case PART34 (write 0x4d 0x01 ++ (levels 0x2_0000_0000 ∷ read_over 0 0x52 false)) byte_is 0x02
    ∷ case PART34 (write 0x4d 0x01 ++ (levels 0x2_0000_0000 ∷ [])) int_is 1
    ∷ case PART34 (write 0x4d 0x01 ++ (levels 0x2_0000_0000 ∷ write 0x62 0xfe)) int_is 0
    -- levels of its 34 pins pass, those of a 35th are refused with 2, as an event and as a device is made
    ∷ case PART34 (levels 0x3_ffff_ffff ∷ []) refused_is 0
    ∷ case PART34 (levels 0x4_0000_0000 ∷ []) refused_is 2
    ∷ case PART24 (levels 0xff_ffff ∷ []) refused_is 0
    ∷ case PART24 (levels 0x100_0000 ∷ []) refused_is 2
    ∷ made PART34 0x3_ffff_ffff 0 0
    ∷ made PART34 0x4_0000_0000 0 2
    ∷ made PART24 0x100_0000 0 2
    -- an image with a bit that does not exist, or a pin that does not, is broken
    ∷ image PART34 (holding 0x13 0x03) 0
    ∷ image PART34 (holding 0x13 0x07) 3
    ∷ image PART34 (holding 0x38 0x1f) 3
    ∷ image PART34 (holding 0x53 0x1f) 0
    ∷ image PART34 (holding 0x53 0x20) 3
    ∷ image PART34 (levelled 0x3_ffff_ffff) 0
    ∷ image PART34 (levelled 0x4_0000_0000) 3
    -- pin 0 high at both ends, its port bit in 5C and its own bit in 70 both from 0 to 1: refusal 4
    ∷ planned PART24 (port0 0xff 0xfe 0x00 0x00) (port0 0xff 0xfe 0x01 0x01) 32 refusal_is 4
    -- the same with output 0, every other pin an input at both ends: a plan
    ∷ planned PART24 (port0 0xfe 0xfe 0x00 0x00) (port0 0xfe 0xfe 0x01 0x01) 32 refusal_is 0
    ∷ planned PART24 (port0 0xfe 0xfe 0x00 0x00) (port0 0xfe 0xfe 0x01 0x01) 32 count_is 2
    -- pin 0 from driven high to input with output 0, pin 1 the reverse: three writes
    ∷ planned PART24 (port0 0xfd 0xfe 0x00 0x00) (port0 0xfe 0xfd 0x00 0x00) 32 count_is 3
    -- in each port pin 0 from high to low and pin 1 from low to released, every port and each pin 0 turned open-drain: sixteen writes, the bound
    ∷ planned PART24 (alike PART24 0x01 0xfc 0x00 0x00) (alike PART24 0x02 0xfc 0x07 0x01) 32 count_is 16
    -- a buffer of 32 bytes passes, one of 31 does not, however short the plan; and a malformed goal comes first
    ∷ planned PART24 (port0 0xff 0xff 0x00 0x00) (port0 0xff 0xff 0x00 0x00) 32 refusal_is 0
    ∷ planned PART24 (port0 0xff 0xff 0x00 0x00) (port0 0xff 0xff 0x00 0x00) 31 refusal_is 6
    ∷ planned PART24 (port0 0xff 0xff 0x00 0x00) (port0 0xff 0xff 0x08 0x00) 31 refusal_is 5
    -- the sister: twenty-six writes, the bound; a buffer of 52 bytes passes, one of 51 does not
    ∷ planned PART34 (alike PART34 0x01 0xfc 0x00 0x00) (alike PART34 0x02 0xfc 0x1f 0x01) 52 count_is 26
    ∷ planned PART34 (alike PART34 0xff 0xff 0x00 0x00) (alike PART34 0xff 0xff 0x00 0x00) 52 refusal_is 0
    ∷ planned PART34 (alike PART34 0xff 0xff 0x00 0x00) (alike PART34 0xff 0xff 0x00 0x00) 51 refusal_is 6
    -- a bit that does not exist, in 13 or in 53, and the ten bytes of the 24-pin part: 5, before 6
    ∷ planned PART34 (port4 0x03 0x03 0x00 0x00) (port4 0x03 0x07 0x00 0x00) 51 refusal_is 5
    ∷ planned PART34 (port4 0x03 0x03 0x20 0x00) (port4 0x03 0x03 0x00 0x00) 51 refusal_is 5
    ∷ planned PART34 (port0 0xff 0xff 0x00 0x00) (port0 0xff 0xff 0x00 0x00) 51 refusal_is 5
    -- pin 32 high at both ends, its port bit in 53 and its own bit in 6C both from 0 to 1: refusal 4; the same with output 0: a plan
    ∷ planned PART34 (port4 0x03 0x02 0x00 0x00) (port4 0x03 0x02 0x10 0x01) 52 refusal_is 4
    ∷ planned PART34 (port4 0x02 0x02 0x00 0x00) (port4 0x02 0x02 0x10 0x01) 52 count_is 2
    ∷ []
