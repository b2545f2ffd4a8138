-- Shortlex is a reduction order, and rank falls along it.
use Rattle.std.proofs.Common.{◌≡◌, ℕ, zero, suc, ◌+◌, ◌*◌, ◌^◌, ◌<◌, ◌≤◌, List, [], ◌∷◌, ◌++◌, length, refl, sym, ap, ◌∙◌, subst, inl, inr, ◌⊎◌, arith, length-append}
use Rattle.std.proofs.Common.{All}
use Rattle.std.proofs.Math.Nat.{mul-le-mul_left, pow-suc}
use Rattle.std.proofs.lemmas.Bool.{cases_lt}
use Rattle.std.proofs.lemmas.List.Elements.{All-head, All-tail}
use Rattle.kb_word.specs.Words.{Less, shorter, earlier, IsEarlier}
use Rattle.kb_word.specs.Order.{Accessible, accessible, IsReductionOrder, rank}

-- induction on a number that may use each smaller one
strong_below : (P : ℕ → Type 0) → ((n : ℕ) → ((m : ℕ) → m < n → P m) → P n) → (n m : ℕ) → m < n
    → P m
strong_below P step zero m h = absurd (let no : ⊥ = omega arith in no)
strong_below P step (suc n) m h =
    step m (λ k less. strong_below P step n k (omega arith))

pub strong_induction : (P : ℕ → Type 0) → ((n : ℕ) → ((m : ℕ) → m < n → P m) → P n) → (n : ℕ) → P n
strong_induction P step n = strong_below P step (suc n) n (omega arith)

pub IsEarlier-irreflexive : (u : List ℕ) → ¬ IsEarlier u u
IsEarlier-irreflexive [] h = h
IsEarlier-irreflexive (x ∷ u) (inl h) = omega arith
IsEarlier-irreflexive (x ∷ u) (inr h) = IsEarlier-irreflexive u h.1

pub IsEarlier-transitive : (u v w : List ℕ) → IsEarlier u v → IsEarlier v w → IsEarlier u w
IsEarlier-transitive [] v w g h = absurd g
IsEarlier-transitive (x ∷ u) [] w g h = absurd g
IsEarlier-transitive (x ∷ u) (y ∷ v) [] g h = absurd h
IsEarlier-transitive (x ∷ u) (y ∷ v) (z ∷ w) (inl g) (inl h) = inl (omega arith)
IsEarlier-transitive (x ∷ u) (y ∷ v) (z ∷ w) (inl g) (inr h) = let e = h.0 in inl (omega arith)
IsEarlier-transitive (x ∷ u) (y ∷ v) (z ∷ w) (inr g) (inl h) = let e = g.0 in inl (omega arith)
IsEarlier-transitive (x ∷ u) (y ∷ v) (z ∷ w) (inr g) (inr h) =
    inr (g.0 ∙ h.0, IsEarlier-transitive u v w g.1 h.1)

-- of two numbers one is less, or they are equal
pub compare_cases : (x y : ℕ) → (x < y) ⊎ ((x ≡ y) ⊎ (y < x))
compare_cases x y = elim (cases_lt x y) [
  | inl h ↦ inl h
  | inr h ↦ elim (cases_lt y x) [ inl g ↦ inr (inr g) | inr g ↦ inr (inl (omega arith)) ]
]

pub lex_total-more : (x y : ℕ) (u v : List ℕ) → (x < y) ⊎ ((x ≡ y) ⊎ (y < x))
    → (u ≡ v) ⊎ (IsEarlier u v ⊎ IsEarlier v u)
    → (x ∷ u ≡ y ∷ v) ⊎ (IsEarlier (x ∷ u) (y ∷ v) ⊎ IsEarlier (y ∷ v) (x ∷ u))
lex_total-more x y u v (inl h) rest = inr (inl (inl h))
lex_total-more x y u v (inr (inr h)) rest = inr (inr (inl h))
lex_total-more x y u v (inr (inl e)) (inl same) = inl (cc)
lex_total-more x y u v (inr (inl e)) (inr (inl h)) = inr (inl (inr (e, h)))
lex_total-more x y u v (inr (inl e)) (inr (inr h)) = inr (inr (inr (sym e, h)))

lex_total : (u v : List ℕ) → length u ≡ length v → (u ≡ v) ⊎ (IsEarlier u v ⊎ IsEarlier v u)
lex_total [] [] e = inl refl
lex_total [] (y ∷ v) e = absurd (let no : ⊥ = omega arith in no)
lex_total (x ∷ u) [] e = absurd (let no : ⊥ = omega arith in no)
lex_total (x ∷ u) (y ∷ v) e =
    lex_total-more x y u v (compare_cases x y) (lex_total u v (omega arith))

pub IsEarlier-append : (u v after : List ℕ) → IsEarlier u v → IsEarlier (u ++ after) (v ++ after)
IsEarlier-append [] v after h = absurd h
IsEarlier-append (x ∷ u) [] after h = absurd h
IsEarlier-append (x ∷ u) (y ∷ v) after (inl h) = inl h
IsEarlier-append (x ∷ u) (y ∷ v) after (inr h) = inr (h.0, IsEarlier-append u v after h.1)

pub IsEarlier-behind : (before u v : List ℕ) → IsEarlier u v → IsEarlier (before ++ u) (before ++ v)
IsEarlier-behind [] u v h = h
IsEarlier-behind (x ∷ before) u v h = inr (refl, IsEarlier-behind before u v h)

none_earlier : (P : List ℕ → Type 0) (v : List ℕ) → IsEarlier v [] → P v
none_earlier P [] h = absurd h
none_earlier P (y ∷ v) h = absurd h

-- what holds of the words of one length that begin with a letter before x, and of those earlier ones that begin with x
first_letter : (n : ℕ) (P : List ℕ → Type 0) (x : ℕ) (u : List ℕ)
    → ((y : ℕ) → y < x → (v : List ℕ) → length v ≡ n → P (y ∷ v))
    → ((v : List ℕ) → length v ≡ n → IsEarlier v u → P (x ∷ v))
    → (v : List ℕ) → length v ≡ suc n → IsEarlier v (x ∷ u) → P v
first_letter n P x u before same [] l h = absurd h
first_letter n P x u before same (y ∷ v) l (inl less) = before y less v (omega arith)
first_letter n P x u before same (y ∷ v) l (inr h) =
    let at : ℕ → Type 0 = λ z. P (z ∷ v) in subst at (sym h.0) (same v (omega arith) h.1)

-- induction along the order of the words of one length
lex_induction : (n : ℕ) (P : List ℕ → Type 0)
    → ((u : List ℕ) → length u ≡ n → ((v : List ℕ) → length v ≡ n → IsEarlier v u → P v) → P u)
    → (u : List ℕ) → length u ≡ n → P u
lex_induction zero P step [] e = step [] e (λ v _ h. none_earlier P v h)
lex_induction zero P step (x ∷ u) e = absurd (let no : ⊥ = omega arith in no)
lex_induction (suc n) P step [] e = absurd (let no : ⊥ = omega arith in no)
lex_induction (suc n) P step (x ∷ u) e =
    let inner : (z : ℕ) → ((y : ℕ) → y < z → (v : List ℕ) → length v ≡ n → P (y ∷ v)) → (v : List ℕ)
    → length v ≡ n → P (z ∷ v)
    = λ z before. lex_induction n (λ v. P (z ∷ v))
    (λ v l same. step (z ∷ v) (omega arith) (first_letter n P z v before same))
    in strong_induction (λ z. (v : List ℕ) → length v ≡ n → P (z ∷ v)) inner x u (omega arith)

-- a word is accessible where the words before it are
below_word : (u : List ℕ) → ((v : List ℕ) → length v < length u → Accessible Less v)
    → ((v : List ℕ) → length v ≡ length u → IsEarlier v u → Accessible Less v)
    → (v : List ℕ) → Less v u → Accessible Less v
below_word u short same v (shorter h) = short v h
below_word u short same v (earlier e h) = same v e h

well_founded-length : (n : ℕ) → ((m : ℕ) → m < n → (v : List ℕ) → length v ≡ m → Accessible Less v)
    → (u : List ℕ) → length u ≡ n → Accessible Less u
well_founded-length n short = lex_induction n (Accessible Less)
    (λ u l same. accessible
    (below_word u (λ v h. short (length v) (omega arith) v refl) (λ v e h. same v (e ∙ l) h)))

pub shortlex_well_founded : (u : List ℕ) → Accessible Less u
shortlex_well_founded u =
    strong_induction (λ n. (v : List ℕ) → length v ≡ n → Accessible Less v) well_founded-length
    (length u) u refl

pub shortlex_irreflexive : (u : List ℕ) → ¬ Less u u
shortlex_irreflexive u (shorter h) = omega arith
shortlex_irreflexive u (earlier e h) = IsEarlier-irreflexive u h

pub shortlex_transitive : (u v w : List ℕ) → Less u v → Less v w → Less u w
shortlex_transitive u v w (shorter g) (shorter h) = shorter (omega arith)
shortlex_transitive u v w (shorter g) (earlier e h) = shorter (omega arith)
shortlex_transitive u v w (earlier e g) (shorter h) = shorter (omega arith)
shortlex_transitive u v w (earlier d g) (earlier e h) =
    earlier (d ∙ e) (IsEarlier-transitive u v w g h)

total_cases : (u v : List ℕ)
    → (length u < length v) ⊎ ((length u ≡ length v) ⊎ (length v < length u))
    → (u ≡ v) ⊎ (Less u v ⊎ Less v u)
total_cases u v (inl h) = inr (inl (shorter h))
total_cases u v (inr (inr h)) = inr (inr (shorter h))
total_cases u v (inr (inl e)) = elim (lex_total u v e) [
  | inl same ↦ inl same
  | inr h ↦ elim h [ inl g ↦ inr (inl (earlier e g)) | inr g ↦ inr (inr (earlier (sym e) g)) ]
]

pub shortlex_total : (u v : List ℕ) → (u ≡ v) ⊎ (Less u v ⊎ Less v u)
shortlex_total u v = total_cases u v (compare_cases (length u) (length v))

pub length-between : (before w after : List ℕ)
    → length (before ++ w ++ after) ≡ length before + length w + length after
length-between before w after = simp length-append

pub shortlex_kept : (before after u v : List ℕ) → Less u v
    → Less (before ++ u ++ after) (before ++ v ++ after)
shortlex_kept before after u v (shorter h) =
    let left = length-between before u after in
    let right = length-between before v after in
    shorter (omega arith)
shortlex_kept before after u v (earlier e h) =
    let left = length-between before u after in
    let right = length-between before v after in
    earlier (omega arith)
    (IsEarlier-append (before ++ u) (before ++ v) after (IsEarlier-behind before u v h))

-- shortlex is a reduction order, on the words over all numbers
pub shortlex_order : IsReductionOrder Less
shortlex_order = record {
  irreflexive = shortlex_irreflexive;
  transitive = shortlex_transitive;
  total = shortlex_total;
  well_founded = shortlex_well_founded;
  kept = shortlex_kept;
}

abbrev IsLetter : ℕ → Type 0
IsLetter x = x < 2 ^ 16

-- the least rank of a word with n letters
lowest : ℕ → ℕ
lowest zero = 0
lowest (suc n) = (2 ^ 16) ^ n + lowest n

digit_low : (x p r l : ℕ) → l ≤ r → p + l ≤ (x + 1) * p + r
digit_low x p r l h = omega arith

digit_high : (x p r l b : ℕ) → x < b → r < p + l → (x + 1) * p + r < p * b + (p + l)
digit_high x p r l b h g =
    let more : p * (x + 1) ≤ p * b = mul-le-mul_left p (omega arith) in omega arith

digit_less : (x y p r s l : ℕ) → x < y → r < p + l → l ≤ s → (x + 1) * p + r < (y + 1) * p + s
digit_less x y p r s l h g k =
    let more : p * (x + 1) ≤ p * y = mul-le-mul_left p (omega arith) in omega arith

rank_low : (w : List ℕ) → lowest (length w) ≤ rank w
unfolding lowest
rank_low [] = omega arith
rank_low (x ∷ w) = digit_low x ((2 ^ 16) ^ length w) (rank w) (lowest (length w)) (rank_low w)

rank_high : (w : List ℕ) → All (λ x. x < 2 ^ 16) w → rank w < lowest (suc (length w))
unfolding lowest
rank_high [] h = omega arith
rank_high (x ∷ w) h =
    let first = digit_high x ((2 ^ 16) ^ length w) (rank w) (lowest (length w)) (2 ^ 16)
    (All-head IsLetter x w h) (rank_high w (All-tail IsLetter x w h)) in
    let power : (2 ^ 16) ^ suc (length w) ≡ (2 ^ 16) ^ length w * 2 ^ 16 =
    pow-suc (2 ^ 16) (length w) in
    omega arith

lowest_kept : (n m : ℕ) → n ≤ m → lowest n ≤ lowest m
unfolding lowest
lowest_kept n zero h = let none : n ≡ 0 = omega arith in let e = ap lowest none in omega arith
lowest_kept n (suc m) h = elim (cases_lt m n) [
  | inl less ↦ (let same : n ≡ suc m = omega arith in let e = ap lowest same in omega arith)
  | inr le ↦ (let more = lowest_kept n m le in omega arith)
]

rank_earlier : (u v : List ℕ) → All (λ x. x < 2 ^ 16) u → length u ≡ length v → IsEarlier u v
    → rank u < rank v
unfolding lowest
rank_earlier [] v g e h = absurd h
rank_earlier (x ∷ u) [] g e h = absurd h
rank_earlier (x ∷ u) (y ∷ v) g e (inl h) =
    let same : length u ≡ length v = omega arith in
    let power = ap (λ n. (2 ^ 16) ^ n) same in
    let lengths = ap lowest same in
    let lows = rank_low v in
    let result = digit_less x y ((2 ^ 16) ^ length u) (rank u) (rank v) (lowest (length u)) h
    (rank_high u (All-tail IsLetter x u g)) (omega arith) in
    let P : ℕ → Type 0 = λ p. (x + 1) * (2 ^ 16) ^ length u + rank u < (y + 1) * p + rank v in
    subst P power result
rank_earlier (x ∷ u) (y ∷ v) g e (inr h) =
    let same : length u ≡ length v = omega arith in
    let first : (x + 1) * (2 ^ 16) ^ length u ≡ (y + 1) * (2 ^ 16) ^ length v =
    cc (ap (λ n. (2 ^ 16) ^ n) same, h.0) in
    let rest = rank_earlier u v (All-tail IsLetter x u g) same h.1 in
    omega arith

-- rank falls along shortlex, where the letters are below 2^16
pub rank_falls : (u v : List ℕ) → All (λ x. x < 2 ^ 16) u → All (λ x. x < 2 ^ 16) v → Less u v
    → rank u < rank v
rank_falls u v g h (shorter less) =
    let high = rank_high u g in
    let between = lowest_kept (suc (length u)) (length v) (omega arith) in
    let low = rank_low v in
    omega arith
rank_falls u v g h (earlier e less) = rank_earlier u v g e less
