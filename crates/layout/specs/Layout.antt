-- The types of message, the parts of each type, and the fields of each part.
use Rattle.std.specs.Prelude.{◌≡◌, ℕ, ◌-◌, ◌^◌, true, false, cond, List, [], ◌∷◌, pos, negsuc, Some, None, sum_by, Option, Result, IfErr, ◌==◌}
use Rattle.std.specs.Result.{result_ok}
use Rattle.layout.specs.declared.Field.{Field}
use Rattle.layout.specs.declared.MessageType.{MessageType}
use Rattle.layout.specs.declared.MessageType.TheVariants.{Type10, Type30, Type40}
use Rattle.layout.specs.declared.Part.{Part}
use Rattle.layout.specs.declared.Part.TheVariants.{Reserved, Ephemeris1, Ephemeris2, Integrity, Week, Clock, GroupDelay}
use Rattle.layout.specs.declared.Part.TheVariants.{Ionosphere, BdtUtc, EarthOrientation, Accuracy, Health, Opaque}
use Rattle.layout.specs.declared.UnknownType.{UnknownType}

-- ---- types

abbrev pub number_of : MessageType → ℕ
number_of Type10 = 10
number_of Type30 = 30
number_of Type40 = 40

abbrev pub type_of : ℕ → Option MessageType
type_of n = cond (n == 10) (Some Type10) (cond (n == 30) (Some Type30) (cond (n == 40) (Some Type40) None))

-- t is the type that a number stands for exactly where the number is t's
pub record Inverse (n : ℕ) (answer : Option MessageType) : Type 0 where
  pub own : (t : MessageType) → answer ≡ Some t → number_of t ≡ n
  pub every : (t : MessageType) → number_of t ≡ n → answer ≡ Some t

-- what is made of a number: its type, or the number back where no type has it
pub record Typed (n : ℕ) (r : Result MessageType UnknownType) : Type 0 where
  pub same : result_ok r ≡ type_of n
  pub back : IfErr r (λ e. e.0 ≡ n)
  pub inverse : Inverse n (result_ok r)

-- ---- fields

-- w bits, from a to b
abbrev pub ranged : ℕ → ℕ → ℕ → Field
ranged w a b = record { width = w; signed = false; least = pos a; most = pos b }

-- w bits, any of them
abbrev pub whole : ℕ → Field
whole w = ranged w 0 (2 ^ w - 1)

-- w bits of two's complement, any of them
abbrev pub twos : ℕ → Field
twos w = record { width = w; signed = true; least = negsuc (2 ^ (w - 1) - 1); most = pos (2 ^ (w - 1) - 1) }

-- a bit that must be 0
abbrev pub reserved : Field
reserved = ranged 1 0 0

-- ---- parts

-- the fields of a part, in the order in which they are sent; what is not taken apart has none
unfoldable pub fields_of : Part → List Field
fields_of Reserved = reserved ∷ reserved ∷ reserved ∷ reserved ∷ []
-- t_oe, SatType, DeltaA, A_dot, Delta_n0, Delta_n0_dot, M0, e, omega
fields_of Ephemeris1 =
    ranged 11 0 2015 ∷ ranged 2 1 3 ∷ twos 26 ∷ twos 25 ∷ twos 17 ∷ twos 23 ∷ twos 33 ∷ whole 33 ∷ twos 33 ∷ []
-- Omega0, i0, Omega_dot, i0_dot, Cis, Cic, Crs, Crc, Cus, Cuc
fields_of Ephemeris2 =
    twos 33 ∷ twos 33 ∷ twos 19 ∷ twos 15 ∷ twos 16 ∷ twos 16 ∷ twos 24 ∷ twos 24 ∷ twos 21 ∷ twos 21 ∷ []
-- DIF, SIF, AIF, SISMAI
fields_of Integrity = whole 1 ∷ whole 1 ∷ whole 1 ∷ whole 4 ∷ []
-- WN
fields_of Week = whole 13 ∷ []
-- t_oc, a0, a1, a2
fields_of Clock = ranged 11 0 2015 ∷ twos 25 ∷ twos 22 ∷ twos 11 ∷ []
-- TGD
fields_of GroupDelay = twos 12 ∷ []
-- alpha1, alpha2, alpha3, alpha4, alpha5, alpha6, alpha7, alpha8, alpha9
fields_of Ionosphere = whole 10 ∷ twos 8 ∷ whole 8 ∷ whole 8 ∷ whole 8 ∷ twos 8 ∷ twos 8 ∷ twos 8 ∷ twos 8 ∷ []
-- A0_UTC, A1_UTC, A2_UTC, dt_LS, t_ot, WN_ot, WN_LSF, DN, dt_LSF
fields_of BdtUtc = twos 16 ∷ twos 13 ∷ twos 7 ∷ twos 8 ∷ ranged 16 0 37799 ∷ whole 13 ∷ whole 13 ∷ whole 3 ∷ twos 8 ∷ []
-- t_EOP, PM_X, PM_X_dot, PM_Y, PM_Y_dot, dUT1, dUT1_dot
fields_of EarthOrientation = ranged 16 0 37799 ∷ twos 21 ∷ twos 15 ∷ twos 21 ∷ twos 15 ∷ twos 31 ∷ twos 19 ∷ []
-- t_op, SISAI_ocb, SISAI_oc1, SISAI_oc2, SISAI_oe
fields_of Accuracy = whole 11 ∷ whole 5 ∷ whole 3 ∷ whole 3 ∷ whole 5 ∷ []
-- HS
fields_of Health = whole 2 ∷ []
fields_of Opaque = []

-- the bits of some fields together
abbrev pub widths : List Field → ℕ
widths fs = sum_by (λ f. f.width) fs

-- the bits of a part
unfoldable pub width_of : Part → ℕ
width_of Reserved = widths (fields_of Reserved)
width_of Ephemeris1 = widths (fields_of Ephemeris1)
width_of Ephemeris2 = widths (fields_of Ephemeris2)
width_of Integrity = widths (fields_of Integrity)
width_of Week = widths (fields_of Week)
width_of Clock = widths (fields_of Clock)
width_of GroupDelay = widths (fields_of GroupDelay)
width_of Ionosphere = widths (fields_of Ionosphere)
width_of BdtUtc = widths (fields_of BdtUtc)
width_of EarthOrientation = widths (fields_of EarthOrientation)
width_of Accuracy = widths (fields_of Accuracy)
width_of Health = widths (fields_of Health)
width_of Opaque = 436

-- the parts of a type, from bit 26 to bit 461
unfoldable pub parts_of : MessageType → List Part
parts_of Type10 = Reserved ∷ Ephemeris1 ∷ Ephemeris2 ∷ Integrity ∷ []
parts_of Type30 =
    Week ∷ Reserved ∷ Clock ∷ GroupDelay ∷ Ionosphere ∷ BdtUtc ∷ EarthOrientation ∷ Accuracy ∷ Health ∷ []
parts_of Type40 = Opaque ∷ []
