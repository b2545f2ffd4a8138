-- Texts with a symbol more at the end, in the shortlex order, and the origins that trace them.
use Rattle.std.proofs.Common.{◌≡◌, ℕ, suc, ◌<◌, List, [], ◌∷◌, ◌++◌, refl, sym, ap, ◌∙◌, subst, inl, inr, arith, length-append}
use Rattle.std.proofs.lemmas.Option.{same_Some}
use Rattle.kb_word.specs.Words.{Less, IsEarlier}
use Rattle.kb_word.specs.Words.Less.{shorter, earlier}
use Rattle.kb_word.specs.ShortlexLaws.{IsEarlier-behind, shortlex_irreflexive, shortlex_transitive, shortlex_total}
use Rattle.kb_explore.specs.Exploration.{IsTraced}
use Rattle.kb_explore.specs.Exploration.IsTraced.{at_start, along}
use Rattle.kb_explore.proofs.Lists.{number_kept}

earlier_continued : (u v more others : List ℕ) → IsEarlier u v → IsEarlier (u ++ more) (v ++ others)
earlier_continued [] v more others h = absurd h
earlier_continued (x ∷ u) [] more others h = absurd h
earlier_continued (x ∷ u) (y ∷ v) more others (inl h) = inl h
earlier_continued (x ∷ u) (y ∷ v) more others (inr h) = inr (h.0, earlier_continued u v more others h.1)

-- a lesser text is lesser with a symbol more, whichever it is
pub less_continued : (u v : List ℕ) (x y : ℕ) → Less u v → Less (u ++ x ∷ []) (v ++ y ∷ [])
less_continued u v x y (shorter h) =
    let one = length-append u (x ∷ []) in
    let two = length-append v (y ∷ []) in
    shorter (omega arith)
less_continued u v x y (earlier e h) =
    let one = length-append u (x ∷ []) in
    let two = length-append v (y ∷ []) in
    earlier (omega arith) (earlier_continued u v (x ∷ []) (y ∷ []) h)

-- and one text with a lesser symbol more is lesser
pub less_behind : (u : List ℕ) (x y : ℕ) → x < y → Less (u ++ x ∷ []) (u ++ y ∷ [])
less_behind u x y less =
    let one = length-append u (x ∷ []) in
    let two = length-append u (y ∷ []) in
    earlier (omega arith) (IsEarlier-behind u (x ∷ []) (y ∷ []) (inl less))

pub not_before : (u v : List ℕ) → Less u v → ¬ Less v u
not_before u v one other = shortlex_irreflexive u (shortlex_transitive u v u one other)

-- a text that is no less than another is no less with a symbol more
pub not_less_longer : (text other : List ℕ) (x : ℕ) → ¬ Less text other → ¬ Less (text ++ x ∷ []) other
not_less_longer text other x not_less less =
    let one = length-append text (x ∷ []) in
    not_less (shortlex_transitive text (text ++ x ∷ []) other (shorter (omega arith)) less)

-- where the text is no less than the word, and that with the symbol no less than the other, the text with the symbol
-- is no less either
pub not_less_continued : (text word other : List ℕ) (x : ℕ) → ¬ Less text word → ¬ Less (word ++ x ∷ []) other → ¬ Less (text ++ x ∷ []) other
not_less_continued text word other x one two less =
    elim (shortlex_total text word) [
      | inl same ↦ (let P : List ℕ → Type 0 = λ u. Less (u ++ x ∷ []) other in two (subst P same less))
      | inr differ ↦ elim differ [
        | inl before ↦ one before
        | inr behind ↦ two (shortlex_transitive (word ++ x ∷ []) (text ++ x ∷ []) other (less_continued word text x x behind) less)
      ]
    ]

-- ---- texts by origins

pub IsTraced-kept : {origins : List (ℕ × ℕ)} (origin : ℕ × ℕ) {state : ℕ} {text : List ℕ} → IsTraced origins state text
    → IsTraced (origins ++ origin ∷ []) state text
IsTraced-kept {origins} origin {state} (at_start e) = at_start (number_kept origins origin state (0, 0) e)
IsTraced-kept {origins} origin {state} (along {parent} {symbol} e rest) =
    along (number_kept origins origin state (suc parent, symbol) e) (IsTraced-kept origin rest)

-- one text leads to a class by the origins
pub traced_once : {origins : List (ℕ × ℕ)} {state : ℕ} {text other : List ℕ} → IsTraced origins state text → IsTraced origins state other
    → text ≡ other
traced_once (at_start one) (at_start two) = refl
traced_once (at_start one) (along {parent = parent} {symbol = symbol} two rest) =
    absurd (let e = ap (λ (p : ℕ × ℕ). p.0) (same_Some _ _ (sym one ∙ two)) in let no : ⊥ = omega arith in no)
traced_once (along {parent = parent} {symbol = symbol} one rest) (at_start two) =
    absurd (let e = ap (λ (p : ℕ × ℕ). p.0) (same_Some _ _ (sym one ∙ two)) in let no : ⊥ = omega arith in no)
traced_once {origins} (along {parent = parent} {symbol = symbol} {text = text} one rest) (along {parent = other} {symbol = letter} {text = word} two more) =
    let e = same_Some _ _ (sym one ∙ two) in
    let numbers = ap (λ (p : ℕ × ℕ). p.0) e in
    let parents : parent ≡ other = omega arith in
    let P : ℕ → Type 0 = λ p. IsTraced origins (suc p) word in
    ap (λ t. t ++ symbol ∷ []) (traced_once rest (subst P (sym parents) more)) ∙ ap (λ x. word ++ x ∷ []) (ap (λ (p : ℕ × ℕ). p.1) e)
