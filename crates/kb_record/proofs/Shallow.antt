-- A text that nests no deeper than it may isn't too deep.
use Rattle.std.proofs.Common.{◌≡◌, ℕ, zero, suc, ◌-◌, ◌<◌, ◌≤◌, List, [], ◌∷◌, ◌++◌, take, drop, ◌⊎◌, inl, inr, ⊎_elim, refl, sym, ap, ◌∙◌, subst, arith, append_assoc}
use Rattle.std.proofs.lemmas.List.{take-append-drop}
use Rattle.kb_lexing.specs.Token.{Token, open_round, close_round, open_square, close_square}
use Rattle.kb_lexing.specs.Spelling.{TokensOf}
use Rattle.kb_record.specs.Tree.{Factors, TextTree}
use Rattle.kb_record.specs.Grammar.{IsText, IsWordText, IsTextForm, IsWordForm, TextOf, WordOf}
use Rattle.kb_record.specs.Nesting.{deepest, open_behind, word_nesting, text_nesting, IsTooDeep}
use Rattle.kb_lexing.specs.Lexemes.{EndsInBracket}
use Rattle.kb_lexing.proofs.Lexings.{UpTo, token_before}
use Rattle.kb_lexing.proofs.TokenFronts.{front_tokens}
use Rattle.kb_record.proofs.TextFronts.{word_fronts, text_fronts}

-- a front of the tokens that ends in a bracket, behind which more than n are open
pub record Opened (n o : ℕ) (tokens : List Token) : Type 0 where
  pub front : List Token
  pub behind : List Token
  pub whole : tokens ≡ front ++ behind
  pub ends : EndsInBracket front
  pub opens : n < open_behind o front

ends_on : (t : Token) (ts : List Token) → EndsInBracket ts → EndsInBracket (t ∷ ts)
ends_on t [] h = absurd h
ends_on t (u ∷ ts) h = h

later : (n o o' : ℕ) (t : Token) (ts : List Token) → ((front : List Token) → open_behind o (t ∷ front) ≡ open_behind o' front) → Opened n o' ts → Opened n o (t ∷ ts)
later n o o' t ts step h = record {
  front = t ∷ h.front;
  behind = h.behind;
  whole = ap (λ rest. t ∷ rest) h.whole;
  ends = ends_on t h.front h.ends;
  opens = let e = step h.front in let more = h.opens in omega arith;
}

at_most : (a b : ℕ) → (a ≤ b) ⊎ (b < a)
at_most zero b = inl (omega arith)
at_most (suc a) zero = inr (omega arith)
at_most (suc a) (suc b) = ⊎_elim (λ h. inl (omega arith)) (λ h. inr (omega arith)) (at_most a b)

opened_round : (n o : ℕ) (ts : List Token) → o ≤ n → ((suc o ≤ n) ⊎ (n < suc o)) → (suc o ≤ n → Opened n (suc o) ts) → Opened n o (open_round ∷ ts)
opened_round n o ts h (inl le) more = later n o (suc o) open_round ts (λ front. refl) (more le)
opened_round n o ts h (inr lt) more = record { front = open_round ∷ []; behind = ts; whole = refl; ends = tt; opens = lt }

opened_square : (n o : ℕ) (ts : List Token) → o ≤ n → ((suc o ≤ n) ⊎ (n < suc o)) → (suc o ≤ n → Opened n (suc o) ts) → Opened n o (open_square ∷ ts)
opened_square n o ts h (inl le) more = later n o (suc o) open_square ts (λ front. refl) (more le)
opened_square n o ts h (inr lt) more = record { front = open_square ∷ []; behind = ts; whole = refl; ends = tt; opens = lt }

pub opened : (n o : ℕ) (tokens : List Token) → o ≤ n → n < open_behind o tokens → Opened n o tokens
opened n o [] h k = let never : ⊥ = omega arith in absurd never
opened n o (open_round ∷ ts) h k = opened_round n o ts h (at_most (suc o) n) (λ le. opened n (suc o) ts le k)
opened n o (open_square ∷ ts) h k = opened_square n o ts h (at_most (suc o) n) (λ le. opened n (suc o) ts le k)
opened n o (close_round ∷ ts) h k = later n o (o - 1) close_round ts (λ front. refl) (opened n (o - 1) ts (omega arith) k)
opened n o (close_square ∷ ts) h k = later n o (o - 1) close_square ts (λ front. refl) (opened n (o - 1) ts (omega arith) k)
opened n o (t ∷ ts) h k = later n o o t ts (λ front. refl) (opened n o ts h k)

-- the front of a text that has the first of its tokens
cut : (text : List ℕ) (front behind : List Token) → EndsInBracket front → TokensOf text (front ++ behind) → (tail : List ℕ) × UpTo text tail front
cut text [] behind ends h = absurd ends
cut text (t ∷ []) behind ends h = (h.0, token_before text t h.0 [] h.0 [] h.1 refl refl)
cut text (t ∷ u ∷ front) behind ends h = let more = cut h.0 (u ∷ front) behind ends h.2 in (more.0, token_before text t h.0 more.1.front more.0 (u ∷ front) h.1 more.1.whole more.1.spelled)

-- the tokens of the whole begin with those of the front
begins_with : (bytes behind tail : List ℕ) (tokens front : List Token) (text : List ℕ) → bytes ≡ text ++ behind → EndsInBracket front → (up : UpTo text tail front) → TokensOf bytes tokens → (more : List Token) × (tokens ≡ front ++ more)
begins_with bytes behind tail tokens front text whole ends up k =
    let joined : bytes ≡ up.front ++ (tail ++ behind) = whole ∙ ap (λ x. x ++ behind) up.whole ∙ append_assoc up.front tail behind in
    let Q : List ℕ → Type 0 = λ x. TokensOf x tokens in
    front_tokens up.front (tail ++ behind) front tokens ends up.spelled (subst Q joined k)

begins_deep : (HasForm : List Token → Type 0) (bytes : List ℕ) (tokens : List Token) → IsTooDeep HasForm bytes → TokensOf bytes tokens → (front : List Token) × (more : List Token) × (tokens ≡ front ++ more) × (deepest < open_behind 0 front)
begins_deep HasForm bytes tokens (n, h) k =
    let high : deepest < open_behind 0 h.tokens = let e = h.opened in omega arith in
    let split = opened deepest 0 h.tokens (omega arith) high in
    let P : List Token → Type 0 = λ ts. TokensOf (take n bytes) ts in
    let up = cut (take n bytes) split.front split.behind split.ends (subst P split.whole h.spelled) in
    let same = begins_with bytes (drop n bytes) up.0 tokens split.front (take n bytes) (sym (take-append-drop n bytes)) split.ends up.1 k in
    (split.front, same.0, same.1, split.opens)

pub shallow_word : (bytes : List ℕ) (factors : Factors) → WordOf bytes factors → word_nesting factors ≤ deepest → IsTooDeep IsWordForm bytes → ⊥
shallow_word bytes factors word shallow h =
    let deep = begins_deep IsWordForm bytes word.tokens h word.spelled in
    let P : List Token → Type 0 = λ ts. IsWordText ts factors in
    let low = word_fronts deep.0 deep.1 factors (subst P deep.2 word.formed) in
    let high = deep.3 in
    omega arith

pub shallow_text : (bytes : List ℕ) (text : TextTree) → TextOf bytes text → text_nesting text ≤ deepest → IsTooDeep IsTextForm bytes → ⊥
shallow_text bytes text given shallow h =
    let deep = begins_deep IsTextForm bytes given.tokens h given.spelled in
    let P : List Token → Type 0 = λ ts. IsText ts text in
    let low = text_fronts deep.0 deep.1 text (subst P deep.2 given.formed) in
    let high = deep.3 in
    omega arith
