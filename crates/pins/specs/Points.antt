-- Bench points of one pin: where it begins, what happens, what one looks at, and what must be seen.
use Rattle.std.specs.Prelude.{Bool, true, false, not, ◌&&◌, ◌||◌, List, [], ◌∷◌}
use Rattle.std.specs.Bool.{beq}
use Rattle.pins.specs.Pin.{source, pin, is_low, is_high}
use Rattle.pins.specs.OnePin.{OnePin, Registers, Happening, registers, after, drive_of, input_of, status_of}
use Rattle.pins.specs.OnePin.Happening.{LevelTo, InputFetched, ClearWritten, MaskWritten, LatchWritten, ConfigurationWritten, PolarityWritten, Reset}

pub record Point : Type 0 where
  pub begins : OnePin
  pub happens : List Happening
  pub look : OnePin → Bool
  pub seen : Bool

abbrev pub point : OnePin → List Happening → (OnePin → Bool) → Bool → Point
point begins happens look seen = record { begins = begins; happens = happens; look = look; seen = seen }

abbrev pub run : List Happening → OnePin → OnePin
run [] s = s
run (e ∷ es) s = run es (after e s)

abbrev pub holds : Point → Bool
holds p = beq (p.look (run p.happens p.begins)) p.seen

abbrev pub all : List Point → Bool
all [] = true
all (p ∷ ps) = holds p && all ps

-- a quiet pin at level 0 with these registers
abbrev pub low : Registers → OnePin
low v = record { registers = v; pin = pin false false false false }

-- an unmasked input with this latch bit and edge field
abbrev pub input : (latch rising falling : Bool) → OnePin
input latch rising falling = low (registers (source true false latch rising falling) true false false false)

-- an output at output bit 1 with these kinds
abbrev pub driver : (port_kind pin_kind : Bool) → OnePin
driver port_kind pin_kind = low (registers (source false true false false false) true false port_kind pin_kind)

-- an unmasked output with this latch bit and edge field
abbrev pub output : (latch rising falling : Bool) → OnePin
output latch rising falling = low (registers (source false false latch rising falling) true false false false)

abbrev pub high : OnePin → Bool
high s = is_high (drive_of s)

abbrev pub released : OnePin → Bool
released s = not (is_low (drive_of s) || is_high (drive_of s))

abbrev pub points : List Point
points =
    -- configuration 0, output 1, port kind 0, pin kind 1: released; port kind 1 too: high; both 0: high
    point (driver false true) [] released true
    ∷ point (driver true true) [] high true
    ∷ point (driver false false) [] high true
    -- latched pin 0, 1, 0: the first fetch shows 1, the next 0; its status bit stays until then
    ∷ point (input true false false) (LevelTo true ∷ LevelTo false ∷ []) input_of true
    ∷ point (input true false false) (LevelTo true ∷ LevelTo false ∷ []) status_of true
    ∷ point (input true false false) (LevelTo true ∷ LevelTo false ∷ InputFetched ∷ []) input_of false
    ∷ point (input true false false) (LevelTo true ∷ LevelTo false ∷ InputFetched ∷ []) status_of false
    -- unlatched pin 0, 1, 0: asserted at 1, quiet again at 0
    ∷ point (input false false false) (LevelTo true ∷ []) status_of true
    ∷ point (input false false false) (LevelTo true ∷ LevelTo false ∷ []) status_of false
    -- rising field, latch 0, unmasked, 0, 1, 0: stays asserted
    ∷ point (input false true false) (LevelTo true ∷ LevelTo false ∷ []) status_of true
    -- masked during it, unmasked after: quiet
    ∷ point (input false true false) (MaskWritten true ∷ LevelTo true ∷ LevelTo false ∷ MaskWritten false ∷ []) status_of false
    -- a polarity write inverts what is read and rings nothing
    ∷ point (input true false false) (PolarityWritten true ∷ []) input_of true
    ∷ point (input true false false) (PolarityWritten true ∷ []) status_of false
    -- a level that was already away from the reference is held from the moment the latch bit is set
    ∷ point (input false false false) (LevelTo true ∷ LatchWritten true ∷ LevelTo false ∷ []) status_of true
    -- an output whose level moved, turned to input: latched it is held, also after the level returns; unlatched it is pending while the level differs
    ∷ point (output true false false) (LevelTo true ∷ ConfigurationWritten true ∷ []) status_of true
    ∷ point (output true false false) (LevelTo true ∷ ConfigurationWritten true ∷ LevelTo false ∷ []) status_of true
    ∷ point (output false false false) (LevelTo true ∷ ConfigurationWritten true ∷ []) status_of true
    ∷ point (output false false false) (LevelTo true ∷ ConfigurationWritten true ∷ LevelTo false ∷ []) status_of false
    -- the level back before the turn, the port fetched or the pin cleared while it was an output, or an edge field: quiet
    ∷ point (output true false false) (LevelTo true ∷ LevelTo false ∷ ConfigurationWritten true ∷ []) status_of false
    ∷ point (output true false false) (LevelTo true ∷ InputFetched ∷ ConfigurationWritten true ∷ []) status_of false
    ∷ point (output false false false) (LevelTo true ∷ ClearWritten true ∷ ConfigurationWritten true ∷ []) status_of false
    ∷ point (output true true true) (LevelTo true ∷ ConfigurationWritten true ∷ []) status_of false
    -- the incident: a pin away from its reference, unmasked, is quiet after a reset though its level has not moved
    ∷ point (input false false false) (LevelTo true ∷ Reset ∷ MaskWritten false ∷ []) status_of false
    ∷ point (input false false false) (LevelTo true ∷ Reset ∷ []) input_of true
    ∷ []
