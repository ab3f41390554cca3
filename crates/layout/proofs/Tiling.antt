-- Pieces that lie one after another tile their bits.
use Rattle.std.proofs.Common.{◌≡◌, ℕ, suc, ◌+◌, ◌<◌, ◌≤◌, List, [], ◌∷◌, take, sum_by, ap, inl, inr, arith}
use Rattle.std.proofs.lemmas.List.{take-take}
use Rattle.std.proofs.lemmas.List.Sums.{sum_by-cons, sum_by-take-le}
use Rattle.std.proofs.lemmas.Bool.{cases_lt, cases_order}
use Rattle.layout.specs.Laws.{Lies, Tiled, start}

-- a piece in front moves the others on
start_cons : {X : Type 0} (w : X → ℕ) (from : ℕ) (x : X) (xs : List X) (i : ℕ)
    → start w from (x ∷ xs) (suc i) ≡ start w (from + w x) xs i
start_cons w from x xs i = omega (arith, sum_by-cons w x (take i xs))

some_piece : {X : Type 0} (w : X → ℕ) (from : ℕ) (xs : List X) (b : ℕ) → from ≤ b → b < from + sum_by w xs
    → (i : ℕ) × Lies w from xs b i
some_piece w from [] b l h = absurd (omega arith)
some_piece w from (x ∷ xs) b l h =
    elim (cases_lt b (from + w x)) [
      | inl s ↦ (0, record { exists = omega arith; low = omega arith; high = omega (arith, sum_by-cons w x []) })
      | inr s ↦
          let rest = some_piece w (from + w x) xs b s (omega (arith, sum_by-cons w x xs)) in
          let i = rest.0 in (
            suc i,
            record {
              exists = omega (arith, rest.1.exists);
              low = omega (arith, rest.1.low, start_cons w from x xs i);
              high = omega (arith, rest.1.high, start_cons w from x xs (suc i));
            },
          )
    ]

-- a piece ends before a later one begins
pub ends_before : {X : Type 0} (w : X → ℕ) (from : ℕ) (xs : List X) (i j : ℕ)
    → i < j → start w from xs (suc i) ≤ start w from xs j
ends_before w from xs i j h =
    omega (arith, sum_by-take-le w (take j xs) (suc i), ap (sum_by w) (take-take (suc i) j xs (omega arith)))

one_piece : {X : Type 0} (w : X → ℕ) (from : ℕ) (xs : List X) (b i j : ℕ)
    → Lies w from xs b i → Lies w from xs b j → i ≡ j
one_piece w from xs b i j p q =
    elim (cases_order i j) [
      | inl e ↦ e
      | inr d ↦ elim d [
        | inl h ↦ absurd (omega (arith, ends_before w from xs i j h))
        | inr h ↦ absurd (omega (arith, ends_before w from xs j i h))
      ]
    ]

pub tiled : {X : Type 0} (w : X → ℕ) (from end : ℕ) (xs : List X) → from + sum_by w xs ≡ end → Tiled w from end xs
tiled w from end xs e =
    record { ends = e; some = λ b l h. some_piece w from xs b l (omega arith); one = one_piece w from xs }
