-- The laws of the field: some by a test over all symbols or pairs of symbols, the others from these.
use Rattle.std.proofs.Common.{◌≡◌, ℕ, zero, suc, ◌+◌, ◌-◌, ◌/◌, ◌%◌, ◌<◌, ltb, ◌≢◌, get_or, sym, refl, ap, ◌∙◌, lit<}
use lib.Bits.{bit_xor, xor_assoc, xor_comm, xor_lt}
use Rattle.std.proofs.lemmas.Bool.{ltb-true}
use Rattle.gf64.specs.Field.{mul, mul_low, times_x, scaled, square, inv, logs, exps}
use Rattle.gf64.specs.Laws.{FieldLaws}
use Rattle.computed.proofs.Below.{each2, less, same, same2}

pub mul_comm : (a b : ℕ) → a < 64 → b < 64 → mul a b ≡ mul b a
unfolding mul mul_low times_x scaled
mul_comm a b ha hb = same2 64 mul (λ a b. mul b a) refl a b ha hb

pub mul_lt : (a b : ℕ) → a < 64 → b < 64 → mul a b < 64
unfolding mul mul_low times_x scaled
mul_lt a b ha hb = ltb-true (mul a b) 64 (each2 64 64 (λ a b. ltb (mul a b) 64) refl a b ha hb)

pub mul_one : (a : ℕ) → a < 64 → mul 1 a ≡ a
unfolding mul mul_low times_x scaled
mul_one a ha = same 64 (mul 1) (λ a. a) refl a ha

pub mul_zero : (a : ℕ) → a < 64 → mul a 0 ≡ 0
unfolding mul mul_low times_x scaled
mul_zero a ha = same 64 (λ a. mul a 0) (λ a. 0) refl a ha

pub xor_small : (a b : ℕ) → a < 64 → b < 64 → bit_xor a b < 64
xor_small a b ha hb = xor_lt 6 a b ha hb

-- the sums of two sums, paired the other way
pub xor_medial : (a b c d : ℕ) → bit_xor (bit_xor a b) (bit_xor c d) ≡ bit_xor (bit_xor a c) (bit_xor b d)
xor_medial a b c d =
    xor_assoc a b (bit_xor c d)
    ∙ ap (bit_xor a) (sym (xor_assoc b c d) ∙ ap (λ (x : ℕ). bit_xor x d) (xor_comm b c) ∙ xor_assoc c b d)
    ∙ sym (xor_assoc a c (bit_xor b d))

-- ---- times x

times_x_xor : (a b : ℕ) → a < 64 → b < 64 → times_x (bit_xor a b) ≡ bit_xor (times_x a) (times_x b)
unfolding times_x
times_x_xor a b ha hb = same2 64 (λ a b. times_x (bit_xor a b)) (λ a b. bit_xor (times_x a) (times_x b)) refl a b ha hb

times_x_lt : (a : ℕ) → a < 64 → times_x a < 64
unfolding times_x
times_x_lt a ha = less 64 64 times_x refl a ha

mul_times_x : (a b : ℕ) → a < 64 → b < 64 → mul a (times_x b) ≡ times_x (mul a b)
unfolding mul mul_low times_x scaled
mul_times_x a b ha hb = same2 64 (λ a b. mul a (times_x b)) (λ a b. times_x (mul a b)) refl a b ha hb

-- ---- by the coefficients of one factor

scaled_lt : (n a : ℕ) → a < 64 → scaled n a < 64
unfolding scaled
scaled_lt zero a h = lit< tt
scaled_lt (suc n) a h = h

scaled_xor : (n a b : ℕ) → scaled n (bit_xor a b) ≡ bit_xor (scaled n a) (scaled n b)
unfolding scaled
scaled_xor zero a b = refl
scaled_xor (suc n) a b = refl

mul_scaled : (n a b : ℕ) → a < 64 → mul a (scaled n b) ≡ scaled n (mul a b)
unfolding scaled
mul_scaled zero a b ha = mul_zero a ha
mul_scaled (suc n) a b ha = refl

mul_low_lt : (n a c : ℕ) → a < 64 → mul_low n a c < 64
unfolding mul_low
mul_low_lt zero a c ha = lit< tt
mul_low_lt (suc n) a c ha =
    xor_small (scaled (c % 2) a) (times_x (mul_low n a (c / 2))) (scaled_lt (c % 2) a ha)
    (times_x_lt (mul_low n a (c / 2)) (mul_low_lt n a (c / 2) ha))

mul_low_xor : (n a b c : ℕ) → a < 64 → b < 64 → mul_low n (bit_xor a b) c ≡ bit_xor (mul_low n a c) (mul_low n b c)
unfolding mul_low
mul_low_xor zero a b c ha hb = refl
mul_low_xor (suc n) a b c ha hb =
    let x : ℕ = mul_low n a (c / 2) in
    let y : ℕ = mul_low n b (c / 2) in
    ap (λ (z : ℕ). bit_xor (scaled (c % 2) (bit_xor a b)) (times_x z)) (mul_low_xor n a b (c / 2) ha hb)
    ∙ ap (bit_xor (scaled (c % 2) (bit_xor a b)))
    (times_x_xor x y (mul_low_lt n a (c / 2) ha) (mul_low_lt n b (c / 2) hb))
    ∙ ap (λ (z : ℕ). bit_xor z (bit_xor (times_x x) (times_x y))) (scaled_xor (c % 2) a b)
    ∙ xor_medial (scaled (c % 2) a) (scaled (c % 2) b) (times_x x) (times_x y)

pub mul_xor_l : (a b c : ℕ) → a < 64 → b < 64 → mul (bit_xor a b) c ≡ bit_xor (mul a c) (mul b c)
unfolding mul
mul_xor_l a b c ha hb = mul_low_xor 6 a b c ha hb

pub mul_xor_r : (a b c : ℕ) → a < 64 → b < 64 → c < 64 → mul a (bit_xor b c) ≡ bit_xor (mul a b) (mul a c)
mul_xor_r a b c ha hb hc =
    mul_comm a (bit_xor b c) ha (xor_small b c hb hc) ∙ mul_xor_l b c a hb hc
    ∙ ap (λ (z : ℕ). bit_xor z (mul c a)) (mul_comm b a hb ha) ∙ ap (bit_xor (mul a b)) (mul_comm c a hc ha)

mul_low_assoc : (n a b c : ℕ) → a < 64 → b < 64 → mul_low n (mul a b) c ≡ mul a (mul_low n b c)
unfolding mul_low
mul_low_assoc zero a b c ha hb = sym (mul_zero a ha)
mul_low_assoc (suc n) a b c ha hb =
    let x : ℕ = mul_low n b (c / 2) in
    let hx : x < 64 = mul_low_lt n b (c / 2) hb in
    ap (λ (z : ℕ). bit_xor (scaled (c % 2) (mul a b)) (times_x z)) (mul_low_assoc n a b (c / 2) ha hb)
    ∙ ap (bit_xor (scaled (c % 2) (mul a b))) (sym (mul_times_x a x ha hx))
    ∙ ap (λ (z : ℕ). bit_xor z (mul a (times_x x))) (sym (mul_scaled (c % 2) a b ha))
    ∙ sym (mul_xor_r a (scaled (c % 2) b) (times_x x) ha (scaled_lt (c % 2) b hb) (times_x_lt x hx))

pub mul_assoc : (a b c : ℕ) → a < 64 → b < 64 → mul (mul a b) c ≡ mul a (mul b c)
unfolding mul
mul_assoc a b c ha hb = mul_low_assoc 6 a b c ha hb

-- ---- inverses

pub inv_lt : (a : ℕ) → a < 64 → inv a < 64
unfolding mul mul_low times_x scaled inv square
inv_lt a ha = less 64 64 inv refl a ha

one_or_zero : ℕ → ℕ
one_or_zero zero = 0
one_or_zero (suc n) = 1

inv_all : (a : ℕ) → a < 64 → mul (inv a) a ≡ one_or_zero a
unfolding mul mul_low times_x scaled inv square one_or_zero
inv_all a ha = same 64 (λ a. mul (inv a) a) one_or_zero refl a ha

pub mul_inv : (a : ℕ) → a < 64 → a ≢ 0 → mul (inv a) a ≡ 1
unfolding one_or_zero
mul_inv zero ha n = absurd (n refl)
mul_inv (suc a) ha n = inv_all (suc a) ha

-- a factor that is not 0 comes off again
pub mul_inv_off : (a b : ℕ) → a < 64 → b < 64 → a ≢ 0 → mul (inv a) (mul a b) ≡ b
mul_inv_off a b ha hb n =
    sym (mul_assoc (inv a) a b (inv_lt a ha) ha) ∙ ap (λ (z : ℕ). mul z b) (mul_inv a ha n) ∙ mul_one b hb

pub mul_cancel : (a b : ℕ) → a < 64 → b < 64 → a ≢ 0 → mul a b ≡ 0 → b ≡ 0
mul_cancel a b ha hb n e =
    sym (mul_inv_off a b ha hb n) ∙ ap (mul (inv a)) e ∙ mul_zero (inv a) (inv_lt a ha)

pub laws : FieldLaws
laws =
    record {
      closed = mul_lt;
      commutative = mul_comm;
      associative = λ a b c ha hb hc. mul_assoc a b c ha hb;
      distributive = mul_xor_r;
      unit = mul_one;
      no_divisors = mul_cancel;
      inverse = mul_inv;
    }

-- ---- logarithms

pub log_lt : (a : ℕ) → a < 64 → get_or logs a 0 < 63
unfolding logs
log_lt a ha = less 64 63 (λ a. get_or logs a 0) refl a ha

by_logs : ℕ → ℕ → ℕ
by_logs zero b = 0
by_logs (suc a) zero = 0
by_logs (suc a) (suc b) = get_or exps (get_or logs (suc a) 0 + get_or logs (suc b) 0) 0

by_logs_mul : (a b : ℕ) → a < 64 → b < 64 → by_logs a b ≡ mul a b
unfolding by_logs logs exps mul mul_low times_x scaled
by_logs_mul a b ha hb = same2 64 by_logs mul refl a b ha hb

pub exp_log : (a b : ℕ) → a < 64 → b < 64 → a ≢ 0 → b ≢ 0 → get_or exps (get_or logs a 0 + get_or logs b 0) 0 ≡ mul a b
unfolding by_logs
exp_log zero b ha hb na nb = absurd (na refl)
exp_log (suc a) zero ha hb na nb = absurd (nb refl)
exp_log (suc a) (suc b) ha hb na nb = by_logs_mul (suc a) (suc b) ha hb

inv_by_log : ℕ → ℕ
inv_by_log zero = 0
inv_by_log (suc a) = get_or exps (63 - get_or logs (suc a) 0) 0

inv_by_log_inv : (a : ℕ) → a < 64 → inv_by_log a ≡ inv a
unfolding inv_by_log logs exps mul mul_low times_x scaled inv square
inv_by_log_inv a h = same 64 inv_by_log inv refl a h

pub exp_inv : (a : ℕ) → a < 64 → a ≢ 0 → get_or exps (63 - get_or logs a 0) 0 ≡ inv a
unfolding inv_by_log
exp_inv zero ha n = absurd (n refl)
exp_inv (suc a) ha n = inv_by_log_inv (suc a) ha

pub inv_zero : inv 0 ≡ 0
unfolding mul mul_low times_x scaled inv square
inv_zero = refl
