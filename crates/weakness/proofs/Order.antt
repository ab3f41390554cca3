-- Sizes are in one order, and of places in that order two are the weakest.
use Rattle.std.proofs.Common.{◌≡◌, ℕ, zero, suc, ◌+◌, ◌-◌, ◌*◌, ◌<◌, ◌≤◌, true, false, cond, not, ◌||◌, ltb, ◌≢◌, ◌⊎◌, sym, refl, ap, ◌∙◌, subst, ap₂, inl, inr, le_trans, le_of_eq, mul-le-mul_right, mul_right_comm, le_of_mul-le-mul_right, arith, lit≤}
use mathlib.Core.Path.{subst⁻¹}
use lib.Ieee.{Float, up, down, is_nan, le, lt}
use lib.Ieee.Fits.{down_pos}
use Rattle.std.proofs.lemmas.Bool.Decides.{nat_tests}
use Rattle.std.proofs.lemmas.Bool.{ltb-true, ltb-false, le-ltb, cases_Bool, cases_eq, both_ways, cond_both, not-true, not-false}
use Rattle.std.specs.Float.{float_min}
use Rattle.weakness.specs.Weakness.{lower_first, weakest_below, with_place, Before, Size, Weakest, number}

-- ---- sizes

-- a/b <= c/d and c/d <= e/f
fractions : (a b c d e f : ℕ) → 0 < d → a * d ≤ c * b → c * f ≤ e * d → a * f ≤ e * b
fractions a b c d e f h p q =
    let x : a * d * f ≤ c * b * f = mul-le-mul_right f p in
    let y : c * f * b ≤ e * d * b = mul-le-mul_right b q in
    let s : a * f * d ≤ e * b * d =
    le_trans (le_of_eq (mul_right_comm a f d)) (le_trans x (le_trans (le_of_eq (mul_right_comm c b f)) (le_trans y (le_of_eq (mul_right_comm e d b))))) in
    le_of_mul-le-mul_right s h

pub not_below_trans : (x y z : Float) → Size x → Size y → Size z → lt y x ≡ false → lt z y ≡ false → lt z x ≡ false
unfolding lt
not_below_trans _ _ _ (number m e) (number n d) (number o g) p q =
    le-ltb (o * up g * down e) (m * up e * down g)
    (fractions (m * up e) (down e) (n * up d) (down d) (o * up g) (down g) (down_pos d)
    (ltb-false (n * up d * down e) (m * up e * down d) p) (ltb-false (o * up g * down d) (n * up d * down g) q))

below_one_way : (x y : Float) → Size x → Size y → lt x y ≡ true → lt y x ≡ false
unfolding lt
below_one_way _ _ (number m e) (number n d) p =
    let h : m * up e * down d < n * up d * down e = ltb-true (m * up e * down d) (n * up d * down e) p in
    le-ltb (n * up d * down e) (m * up e * down d) (omega arith)

below_not_above : (x y z : Float) → Size x → Size y → Size z → lt x y ≡ true → lt z y ≡ false → lt x z ≡ true
below_not_above x y z hx hy hz p q =
    elim (cases_Bool (lt x z)) [ inl t ↦ t | inr f ↦ absurd (both_ways (lt x y) (not_below_trans y z x hy hz hx q f) p) ]

not_above_below : (x y z : Float) → Size x → Size y → Size z → lt y x ≡ false → lt y z ≡ true → lt x z ≡ true
not_above_below x y z hx hy hz p q =
    elim (cases_Bool (lt x z)) [ inl t ↦ t | inr f ↦ absurd (both_ways (lt y z) (not_below_trans z x y hz hx hy f p) q) ]

-- the least of two is one of them, and neither is below it
pub least_either : (x y : Float) (P : Float → Type 0) → P x → P y → P (float_min x y)
least_either x y P px py = cond_both (le x y || is_nan y) x y P (λ e. px) (λ e. py)

at_most : (x y : Float) → Size x → Size y → (le x y || is_nan y) ≡ not (lt y x)
unfolding is_nan le lt
at_most _ _ (number m e) (number n d) = grind (arith, nat_tests)

not_below_itself : (x : Float) → Size x → lt x x ≡ false
not_below_itself x h = elim (cases_Bool (lt x x)) [ inl t ↦ below_one_way x x h h t | inr f ↦ f ]

pub least_none_below : (x y : Float) → Size x → Size y → (lt x (float_min x y) ≡ false) × (lt y (float_min x y) ≡ false)
least_none_below x y hx hy =
    cond_both (le x y || is_nan y) x y (λ z. (lt x z ≡ false) × (lt y z ≡ false))
    (λ e. (not_below_itself x hx, not-true (lt y x) (sym (at_most x y hx hy) ∙ e)))
    (λ e. (below_one_way y x hy hx (not-false (lt y x) (sym (at_most x y hx hy) ∙ e)), not_below_itself y hy))

-- ---- places

abbrev pub Sizes : (ℕ → Float) → Type 0
Sizes w = (k : ℕ) → k < 162 → Size (w k)

before_trans : (w : ℕ → Float) → Sizes w → (i j k : ℕ) → i < 162 → j < 162 → k < 162 → Before w i j → Before w j k → Before w i k
before_trans w s i j k hi hj hk p q =
    let x = s i hi in
    let y = s j hj in
    let z = s k hk in
    elim p [
      | inl a ↦ elim q [
        | inl b ↦ inl (below_not_above (w i) (w j) (w k) x y z a (below_one_way (w j) (w k) y z b))
        | inr b ↦ inl (below_not_above (w i) (w j) (w k) x y z a b.0)
      ]
      | inr a ↦ elim q [
        | inl b ↦ inl (not_above_below (w i) (w j) (w k) x y z a.0 b)
        | inr b ↦ inr (not_below_trans (w i) (w j) (w k) x y z a.0 b.0, omega (arith, a.1, b.1))
      ]
    ]

before_one_way : (w : ℕ → Float) → Sizes w → (i j : ℕ) → i < 162 → j < 162 → Before w i j → Before w j i → ⊥
before_one_way w s i j hi hj p q =
    elim p [
      | inl a ↦ elim q [
        | inl b ↦ both_ways (lt (w j) (w i)) (below_one_way (w i) (w j) (s i hi) (s j hj) a) b
        | inr b ↦ both_ways (lt (w i) (w j)) b.0 a
      ]
      | inr a ↦ elim q [ inl b ↦ both_ways (lt (w j) (w i)) a.0 b | inr b ↦ omega (arith, a.1, b.1) ]
    ]

-- a and then b are the weakest places below n
record Lowest (w : ℕ → Float) (n a b : ℕ) : Type 0 where
  one : a < n
  two : b < n
  apart : a ≢ b
  first : Before w a b
  second : (k : ℕ) → k < n → k ≢ a → k ≢ b → Before w b k

-- place n is the weakest so far
lowest_first : (w : ℕ → Float) → Sizes w → (n a b : ℕ) → n < 162 → Lowest w n a b → lt (w n) (w a) ≡ true → Lowest w (n + 1) n a
lowest_first w s n a b h l e =
    let ha : a < n = l.one in
    let hb : b < n = l.two in
    record {
      one = omega arith;
      two = omega arith;
      apart = omega arith;
      first = inl e;
      second = λ k hk nn na. elim (cases_eq k b) [
        | inl i ↦ subst⁻¹ (Before w a) i l.first
        | inr d ↦ before_trans w s a b k (omega arith) (omega arith) (omega arith) l.first (l.second k (omega arith) na d)
      ];
    }

-- place n is the second weakest so far
lowest_second : (w : ℕ → Float) → Sizes w → (n a b : ℕ) → n < 162 → Lowest w n a b → lt (w n) (w a) ≡ false → lt (w n) (w b) ≡ true
    → Lowest w (n + 1) a n
lowest_second w s n a b h l e f =
    let ha : a < n = l.one in
    let hb : b < n = l.two in
    record {
      one = omega arith;
      two = omega arith;
      apart = omega arith;
      first = inr (e, ha);
      second = λ k hk na nn. elim (cases_eq k b) [
        | inl i ↦ inl (subst⁻¹ (λ j. lt (w n) (w j) ≡ true) i f)
        | inr d ↦ before_trans w s n b k h (omega arith) (omega arith) (inl f) (l.second k (omega arith) na d)
      ];
    }

lowest_rest : (w : ℕ → Float) (n a b : ℕ) → Lowest w n a b → lt (w n) (w b) ≡ false → Lowest w (n + 1) a b
lowest_rest w n a b l f =
    let ha : a < n = l.one in
    let hb : b < n = l.two in
    record {
      one = omega arith;
      two = omega arith;
      apart = l.apart;
      first = l.first;
      second = λ k hk na nb. elim (cases_eq k n) [
        | inl i ↦ subst⁻¹ (Before w b) i (inr (f, hb))
        | inr d ↦ l.second k (omega arith) na nb
      ];
    }

others : (w : ℕ → Float) → Sizes w → (a b : ℕ) → Lowest w 162 a b → (k : ℕ) → k < 162 → k ≢ a → k ≢ b → Before w a k × Before w b k
others w s a b l k hk na nb =
    let z = l.second k hk na nb in
    (before_trans w s a b k l.one l.two hk l.first z, z)

weakest_up : (w : ℕ → Float) → Sizes w → (a b : ℕ) → Lowest w 162 a b → a < b → Weakest w a b
weakest_up w s a b l h = record { order = h; inside = l.two; others = others w s a b l }

weakest_down : (w : ℕ → Float) → Sizes w → (a b : ℕ) → Lowest w 162 a b → b ≤ a → Weakest w b a
weakest_down w s a b l h =
    let d : a ≢ b = l.apart in
    record {
      order = omega arith;
      inside = l.one;
      others = λ k hk nb na. let z = others w s a b l k hk na nb in (z.1, z.0);
    }

-- ---- the scan as a function

abbrev LowestPair : (ℕ → Float) → ℕ → ℕ × ℕ → Type 0
LowestPair w n p = Lowest w n p.0 p.1

start_swapped : (w : ℕ → Float) → lt (w 1) (w 0) ≡ true → Lowest w 2 1 0
start_swapped w e =
    record { one = omega arith; two = omega arith; apart = omega arith; first = inl e; second = λ k h a b. absurd (omega arith) }

start_kept : (w : ℕ → Float) → lt (w 1) (w 0) ≡ false → Lowest w 2 0 1
start_kept w e =
    record { one = omega arith; two = omega arith; apart = omega arith; first = inr (e, omega arith); second = λ k h a b. absurd (omega arith) }

place_more : (w : ℕ → Float) → Sizes w → (n : ℕ) (p : ℕ × ℕ) → n < 162 → LowestPair w n p → LowestPair w (n + 1) (with_place w n p)
place_more w s n p h l =
    cond_both (lt (w n) (w p.0)) (n, p.0) (cond (lt (w n) (w p.1)) (p.0, n) p) (LowestPair w (n + 1))
    (λ e. lowest_first w s n p.0 p.1 h l e)
    (λ e. cond_both (lt (w n) (w p.1)) (p.0, n) p (LowestPair w (n + 1))
    (λ f. lowest_second w s n p.0 p.1 h l e f)
    (λ f. lowest_rest w n p.0 p.1 l f))

below_lowest : (w : ℕ → Float) → Sizes w → (n : ℕ) → n ≤ 160 → LowestPair w (n + 2) (weakest_below w n)
unfolding weakest_below
below_lowest w s zero h = cond_both (lt (w 1) (w 0)) (1, 0) (0, 1) (LowestPair w 2) (start_swapped w) (start_kept w)
below_lowest w s (suc n) h =
    let e : n + 2 + 1 ≡ suc n + 2 = omega arith in
    subst (λ m. LowestPair w m (with_place w (n + 2) (weakest_below w n))) e
    (place_more w s (n + 2) (weakest_below w n) (omega arith) (below_lowest w s n (omega arith)))

pub scan_none : (w : ℕ → Float) → cond (lt (w 1) (w 0)) (1, 0) (0, 1) ≡ weakest_below w (2 - 2)
unfolding weakest_below
scan_none w = refl

pub scan_more : (w : ℕ → Float) (k : ℕ) → 2 ≤ k → with_place w k (weakest_below w (k - 2)) ≡ weakest_below w (k + 1 - 2)
unfolding weakest_below
scan_more w k h =
    let n : ℕ = k - 2 in
    let e : k + 1 - 2 ≡ suc n = omega arith in
    let f : n + 2 ≡ k = omega arith in
    ap (λ j. with_place w j (weakest_below w n)) (sym f) ∙ ap (weakest_below w) (sym e)

abbrev pub WeakestPair : (ℕ → Float) → ℕ × ℕ → Type 0
WeakestPair w p = Weakest w p.0 p.1

pub scan_weakest : (w : ℕ → Float) → Sizes w → WeakestPair w (lower_first (weakest_below w 160))
scan_weakest w s =
    let p : ℕ × ℕ = weakest_below w 160 in
    let l : LowestPair w 162 p = below_lowest w s 160 (lit≤ tt) in
    cond_both (ltb p.0 p.1) p (p.1, p.0) (WeakestPair w)
    (λ e. weakest_up w s p.0 p.1 l (ltb-true p.0 p.1 e))
    (λ e. weakest_down w s p.0 p.1 l (ltb-false p.0 p.1 e))

-- ---- there is one such pair

-- of two pairs, y is of the first and not of the second, and x of the second and not of the first
clash : (w : ℕ → Float) → Sizes w → (p q : ℕ × ℕ) (x y : ℕ) → WeakestPair w p → WeakestPair w q → x < 162 → y < 162
    → (y ≡ p.0) ⊎ (y ≡ p.1) → (x ≡ q.0) ⊎ (x ≡ q.1) → x ≢ p.0 → x ≢ p.1 → y ≢ q.0 → y ≢ q.1 → ⊥
clash w s p q x y u v hx hy yp xq a b c d =
    let after = u.others x hx a b in
    let before = v.others y hy c d in
    let f : Before w y x = elim yp [ inl e ↦ subst⁻¹ (λ i. Before w i x) e after.0 | inr e ↦ subst⁻¹ (λ i. Before w i x) e after.1 ] in
    let g : Before w x y = elim xq [ inl e ↦ subst⁻¹ (λ i. Before w i y) e before.0 | inr e ↦ subst⁻¹ (λ i. Before w i y) e before.1 ] in
    before_one_way w s y x hy hx f g

pub weakest_one : (w : ℕ → Float) → Sizes w → (p q : ℕ × ℕ) → WeakestPair w p → WeakestPair w q → p ≡ q
weakest_one w s p q u v =
    let op : p.0 < p.1 = u.order in
    let oq : q.0 < q.1 = v.order in
    let hp : p.1 < 162 = u.inside in
    let hq : q.1 < 162 = v.inside in
    elim (cases_eq p.0 q.0) [
      | inl e ↦ elim (cases_eq p.1 q.1) [
        | inl f ↦ ap₂ (λ i j. (i, j)) e f
        | inr n ↦ absurd (clash w s p q q.1 p.1 u v hq hp (inr refl) (inr refl) (omega arith) (omega arith) (omega arith) n)
      ]
      | inr n ↦ elim (cases_eq p.0 q.1) [
        | inl e ↦ absurd (clash w s p q q.0 p.1 u v (omega arith) hp (inr refl) (inl refl) (omega arith) (omega arith) (omega arith) (omega arith))
        | inr m ↦ elim (cases_eq q.0 p.1) [
          | inl e ↦ absurd (clash w s p q q.1 p.0 u v hq (omega arith) (inl refl) (inr refl) (omega arith) (omega arith) n m)
          | inr o ↦ absurd (clash w s p q q.0 p.0 u v (omega arith) (omega arith) (inl refl) (inl refl) (omega arith) o n m)
        ]
      ]
    ]
