-- Sums of numbers that are kept by their limbs.
use Rattle.std.proofs.Common.{◌≡◌, ℕ, zero, suc, ◌+◌, ◌*◌, ◌/◌, ◌%◌, ◌^◌, ◌≤◌, List, [], ◌∷◌, ◌++◌, length, get_or, drop, refl, sym, ◌∙◌, ap, ap₂, arith, add-one}
use Rattle.std.specs.List.{All}
use Rattle.std.proofs.Math.Nat.{pow-suc, mod-add-div}
use Rattle.std.proofs.lemmas.List.Elements.{All-append, All-cons}
use Rattle.kb_count.specs.Limbs.{value_of}

-- ---- products

-- a number is as many bases and what is over
push_products : (x base v limb power : ℕ)
    → x + base * (v + limb * power) ≡ (x + base * v) + limb * (power * base)
push_products x base v limb power = grind arith

spread : (base a b c : ℕ) → base * (a + (b + c)) ≡ base * a + (base * b + base * c)
spread base a b c = grind arith

one_place : (v low rest power base : ℕ) → (v + low * power) + rest * (power * base) ≡ v + (low + base * rest) * power
one_place v low rest power base = grind arith

carry_products : (base power v low high carry x y rest_x rest_y : ℕ) → low + base * high ≡ x + y + carry
    → (v + low * power) + (high + (rest_x + rest_y)) * (power * base)
    ≡ v + (carry + ((x + base * rest_x) + (y + base * rest_y))) * power
carry_products base power v low high carry x y rest_x rest_y split =
    let all : low + base * (high + (rest_x + rest_y)) ≡ carry + ((x + base * rest_x) + (y + base * rest_y)) =
    omega (arith, split, spread base high rest_x rest_y) in
    one_place v low (high + (rest_x + rest_y)) power base ∙ ap (λ s. v + s * power) all

-- ---- the value of limbs

pub value-push : (limbs : List ℕ) (limb : ℕ)
    → value_of (limbs ++ limb ∷ []) ≡ value_of limbs + limb * (10 ^ 18) ^ length limbs
value-push [] limb = omega arith
value-push (x ∷ limbs) limb =
    ap (λ v. x + 10 ^ 18 * v) (value-push limbs limb)
    ∙ push_products x (10 ^ 18) (value_of limbs) limb ((10 ^ 18) ^ length limbs)
    ∙ ap (λ power. (x + 10 ^ 18 * value_of limbs) + limb * power) (sym (pow-suc (10 ^ 18) (length limbs)))

-- from a place on the number is the limb there, and as many bases as the limbs behind it say
pub value-drop : (limbs : List ℕ) (place : ℕ)
    → value_of (drop place limbs) ≡ get_or limbs place 0 + 10 ^ 18 * value_of (drop (suc place) limbs)
value-drop [] zero = refl
value-drop [] (suc place) = refl
value-drop (x ∷ limbs) zero = refl
value-drop (x ∷ limbs) (suc place) = value-drop limbs place

-- past the last limb nothing is left
pub value-past : (limbs : List ℕ) (place : ℕ) → length limbs ≤ place → value_of (drop place limbs) ≡ 0
value-past [] zero past = refl
value-past [] (suc place) past = refl
value-past (x ∷ limbs) zero past = absurd (let no : ⊥ = omega arith in no)
value-past (x ∷ limbs) (suc place) past = value-past limbs place (omega arith)

-- ---- the sum of two numbers, place by place

pub All-pushed : (P : ℕ → Type 0) (limbs : List ℕ) (limb : ℕ) → All P limbs → P limb → All P (limbs ++ limb ∷ [])
All-pushed P limbs limb all holds =
    All-append P limbs (limb ∷ []) all
    (All-cons P limb [] holds (λ k d within. absurd (let no : ⊥ = omega arith in no)))

-- what the sum up to a place, what is carried and what is left of both numbers come to
abbrev pub in_all : List ℕ → ℕ → ℕ → List ℕ → List ℕ → ℕ
in_all limbs carry place one other =
    value_of limbs + (carry + (value_of (drop place one) + value_of (drop place other))) * (10 ^ 18) ^ place

pub sum-step : (limbs pushed one other : List ℕ) (place carry x y : ℕ) → length limbs ≡ place
    → x ≡ get_or one place 0 → y ≡ get_or other place 0
    → pushed ≡ limbs ++ (x + y + carry) % 10 ^ 18 ∷ []
    → in_all pushed ((x + y + carry) / 10 ^ 18) (place + 1) one other ≡ in_all limbs carry place one other
sum-step limbs pushed one other place carry x y long is_x is_y is =
    let sum = x + y + carry in
    let low = sum % 10 ^ 18 in
    let high = sum / 10 ^ 18 in
    let power = (10 ^ 18) ^ place in
    let rest_x = value_of (drop (suc place) one) in
    let rest_y = value_of (drop (suc place) other) in
    let value : value_of pushed ≡ value_of limbs + low * power =
    ap value_of is ∙ value-push limbs low ∙ ap (λ n. value_of limbs + low * (10 ^ 18) ^ n) long in
    let own_x : x + 10 ^ 18 * rest_x ≡ value_of (drop place one) =
    ap (λ limb. limb + 10 ^ 18 * rest_x) is_x ∙ sym (value-drop one place) in
    let own_y : y + 10 ^ 18 * rest_y ≡ value_of (drop place other) =
    ap (λ limb. limb + 10 ^ 18 * rest_y) is_y ∙ sym (value-drop other place) in
    ap (λ n. value_of pushed + (high + (value_of (drop n one) + value_of (drop n other))) * (10 ^ 18) ^ n) (add-one place)
    ∙ ap₂ (λ (v : ℕ) (p : ℕ). v + (high + (rest_x + rest_y)) * p) value (pow-suc (10 ^ 18) place)
    ∙ carry_products (10 ^ 18) power (value_of limbs) low high carry x y rest_x rest_y (mod-add-div sum (10 ^ 18))
    ∙ ap₂ (λ (a : ℕ) (b : ℕ). value_of limbs + (carry + (a + b)) * power) own_x own_y

-- past both numbers what is carried is left
past_both : (limbs one other : List ℕ) (carry place : ℕ) → length one ≤ place → length other ≤ place
    → in_all limbs carry place one other ≡ value_of limbs + carry * (10 ^ 18) ^ place
past_both limbs one other carry place past_one past_other =
    ap₂ (λ (a : ℕ) (b : ℕ). value_of limbs + (carry + (a + b)) * (10 ^ 18) ^ place)
    (value-past one place past_one) (value-past other place past_other)
    ∙ ap (λ c. value_of limbs + c * (10 ^ 18) ^ place) (let same : carry + (0 + 0) ≡ carry = omega arith in same)

pub sum-carried : (limbs pushed one other : List ℕ) (carry place : ℕ) → length limbs ≡ place → length one ≤ place
    → length other ≤ place
    → pushed ≡ limbs ++ carry ∷ [] → value_of pushed ≡ in_all limbs carry place one other
sum-carried limbs pushed one other carry place long past_one past_other is =
    ap value_of is ∙ value-push limbs carry ∙ ap (λ n. value_of limbs + carry * (10 ^ 18) ^ n) long
    ∙ sym (past_both limbs one other carry place past_one past_other)

pub sum-whole : (limbs one other : List ℕ) (carry place : ℕ) → length one ≤ place → length other ≤ place
    → carry ≤ 0 → value_of limbs ≡ in_all limbs carry place one other
sum-whole limbs one other carry place past_one past_other none =
    let zero_carried : 0 ≡ carry = omega arith in
    sym (past_both limbs one other carry place past_one past_other
    ∙ ap (λ c. value_of limbs + c * (10 ^ 18) ^ place) (sym zero_carried)
    ∙ (let same : value_of limbs + 0 * (10 ^ 18) ^ place ≡ value_of limbs = omega arith in same))
