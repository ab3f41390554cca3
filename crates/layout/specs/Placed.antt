-- Each field of a type of message with the place of its first bit.
use Rattle.std.specs.Prelude.{◌≡◌, ℕ, ◌+◌, Bool, true, false, cond, List, [], ◌∷◌, ◌++◌}
use Rattle.std.specs.Bool.{beq}
use Rattle.layout.specs.declared.Field.{Field}
use Rattle.layout.specs.declared.MessageType.{MessageType}
use Rattle.layout.specs.declared.Part.{Part}
use Rattle.layout.specs.declared.Part.TheVariants.{Reserved, Ephemeris1, Ephemeris2, Integrity, Week, Clock, GroupDelay}
use Rattle.layout.specs.declared.Part.TheVariants.{Ionosphere, BdtUtc, EarthOrientation, Accuracy, Health, Opaque}
use Rattle.layout.specs.Layout.{fields_of, width_of, parts_of}

-- a field and its first bit
pub record Placed : Type 0 where
  pub bit : ℕ
  pub field : Field

abbrev pub at : ℕ → Field → Placed
at b f = record { bit = b; field = f }

-- the fields one after another from a bit on
unfoldable pub placed : ℕ → List Field → List Placed
placed b [] = []
placed b (f ∷ fs) = at b f ∷ placed (b + f.width) fs

-- the fields of a part that begins at a bit, where the test keeps the part
abbrev pub kept : (Part → Bool) → ℕ → Part → List Placed
kept keep b p = cond (keep p) (placed b (fields_of p)) []

-- the placed fields of the parts that the test keeps, where all the parts lie one after another from a bit on
unfoldable pub spread : (Part → Bool) → ℕ → List Part → List Placed
spread keep b [] = []
spread keep b (p ∷ ps) = kept keep b p ++ spread keep (b + width_of p) ps

abbrev pub is_reserved : Part → Bool
is_reserved Reserved = true
is_reserved Ephemeris1 = false
is_reserved Ephemeris2 = false
is_reserved Integrity = false
is_reserved Week = false
is_reserved Clock = false
is_reserved GroupDelay = false
is_reserved Ionosphere = false
is_reserved BdtUtc = false
is_reserved EarthOrientation = false
is_reserved Accuracy = false
is_reserved Health = false
is_reserved Opaque = false

-- the answers of a test are those of a function
abbrev pub Decided : (Part → Bool → Type 0) → (Part → Bool) → Type 0
Decided answers keep = (p : Part) (b : Bool) → answers p b → b ≡ keep p

-- a search for reserved bits looks at the parts that are reserved, and one for parameters at the others
abbrev pub looks_at : Bool → Part → Bool
looks_at reserved p = beq (is_reserved p) reserved

-- the reserved bits of a type
unfoldable pub reserved_of : MessageType → List Placed
reserved_of t = spread (looks_at true) 26 (parts_of t)

-- its other fields
unfoldable pub parameters_of : MessageType → List Placed
parameters_of t = spread (looks_at false) 26 (parts_of t)
