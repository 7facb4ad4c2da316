-- What the translations between an image and its words promise.
use Rattle.std.specs.Prelude.{◌≡◌, Bool, true, false, ◌&&◌, List, ℕ, ◌%◌, ltb, get_or}
use Rattle.map.specs.Map.{part_of}
use Rattle.device_rules.specs.Device.{State}
use Rattle.device_rules.specs.declared.Rest.{Rest}
use Rattle.device_rules.specs.Refusals.{image_fits}
use Rattle.words.specs.Words.{sets_in, status_word, line_word}
use Rattle.words_state.specs.Packed.{state_in, pointer_word, mode_word, bus_word, choice_word, id_word, place_word, Packed}

-- an image of part c, judged as an image; the words are its packing then, or as they were
pub record Packs (c : ℕ) (image : State) (fits : Bool) (w w' : List ℕ) : Type 0 where
  pub judged : fits ≡ (ltb c 2 && image_fits (part_of c) image)
  pub packed : fits ≡ true → Packed c w' × (state_in (part_of c) w' ≡ image)
  pub unchanged : fits ≡ false → w' ≡ w

-- the state beside the register file, in bytes where the image has bytes
abbrev pub rest_in : List ℕ → Rest
rest_in w = record { sets = sets_in w; pointer = get_or w pointer_word 0 % 256; bus = get_or w bus_word 0 % 256; choice = get_or w choice_word 0 % 256; status = get_or w status_word 0; line = get_or w line_word 0 % 256; mode = get_or w mode_word 0 % 256; number = get_or w id_word 0; place = get_or w place_word 0 % 256 }
