-- Following the origins back from a state.
use Rattle.std.proofs.Common.{◌≡◌, ◌≢◌, ℕ, zero, suc, ◌-◌, ◌<◌, ◌≤◌, List, [], ◌∷◌, ◌++◌, length, get_or, reverse, Some, refl, sym, ap, subst, ◌∙◌, arith, append_assoc}
use Rattle.std.proofs.lemmas.List.{append-nil, reverse-append}
use Rattle.std.proofs.lemmas.Option.{same_Some, slice_get-get_or}
use Rattle.kb_explore.specs.Exploration.{numbered, IsTraced, at_start, along, AreFromEarlier}
use Rattle.kb_explore.specs.Tracing.{IsTracing}
use Rattle.kb_explore.proofs.ExplorationLemmas.{number_positive, number_within}

-- what is traced has an origin
traced_origin : {origins : List (ℕ × ℕ)} {state : ℕ} {text : List ℕ} → IsTraced origins state text → (origin : ℕ × ℕ) × (numbered origins state ≡ Some origin)
traced_origin (at_start e) = ((0, 0), e)
traced_origin (along {parent} {symbol} e rest) = ((suc parent, symbol), e)

-- one text is traced to a state
pub traced_once : {origins : List (ℕ × ℕ)} {state : ℕ} {text other : List ℕ} → IsTraced origins state text → IsTraced origins state other
    → text ≡ other
traced_once (at_start one) (at_start two) = refl
traced_once (at_start one) (along {parent = parent} {symbol = symbol} two rest) =
    absurd (let e = ap (λ (p : ℕ × ℕ). p.0) (same_Some _ _ (sym one ∙ two)) in let no : ⊥ = omega arith in no)
traced_once (along {parent = parent} {symbol = symbol} one rest) (at_start two) =
    absurd (let e = ap (λ (p : ℕ × ℕ). p.0) (same_Some _ _ (sym one ∙ two)) in let no : ⊥ = omega arith in no)
traced_once {origins} (along {parent = parent} {symbol = symbol} {text = text} one rest) (along {parent = other} {symbol = letter} {text = word} two more) =
    let e = same_Some _ _ (sym one ∙ two) in
    let numbers = ap (λ (p : ℕ × ℕ). p.0) e in
    let parents : parent ≡ other = omega arith in
    let P : ℕ → Type 0 = λ p. IsTraced origins (suc p) word in
    ap (λ t. t ++ symbol ∷ []) (traced_once rest (subst P (sym parents) more)) ∙ ap (λ x. word ++ x ∷ []) (ap (λ (p : ℕ × ℕ). p.1) e)

pub traced_positive : {origins : List (ℕ × ℕ)} {state : ℕ} {text : List ℕ} → IsTraced origins state text → 0 < state
traced_positive {origins} {state} traced = let origin = traced_origin traced in number_positive origins state origin.0 origin.1

pub traced_within : {origins : List (ℕ × ℕ)} {state : ℕ} {text : List ℕ} → IsTraced origins state text → state ≤ length origins
traced_within {origins} {state} traced = let origin = traced_origin traced in number_within origins state origin.0 origin.1

-- the origin that is read
read_origin : (origins : List (ℕ × ℕ)) (state : ℕ) → 0 < state → state ≤ length origins → numbered origins state ≡ Some (get_or origins (state - 1) (0, 0))
read_origin origins zero positive within = absurd (let no : ⊥ = omega arith in no)
read_origin origins (suc place) positive within =
    let same : suc place - 1 ≡ place = omega arith in
    slice_get-get_or origins place (0, 0) (omega arith) ∙ ap (λ n. Some (get_or origins n (0, 0))) (sym same)

pub IsTracing-begun : {origins : List (ℕ × ℕ)} {state : ℕ} {text : List ℕ} → IsTraced origins state text
    → IsTracing origins state (get_or origins (state - 1) (0, 0)).0 (get_or origins (state - 1) (0, 0)).1 []
IsTracing-begun {origins} {state} {text} traced = record {
  state = state;
  origin = read_origin origins state (traced_positive traced) (traced_within traced);
  text = text;
  traced = traced;
  rest = λ before from. (let P : List ℕ → Type 0 = λ t. IsTraced origins state t in subst P (sym (append-nil before)) from);
}

-- a state whose origin is a state is traced from there
traced_parent : {origins : List (ℕ × ℕ)} {state parent symbol : ℕ} {text : List ℕ} → IsTraced origins state text
    → numbered origins state ≡ Some (parent, symbol) → parent ≢ 0 → (front : List ℕ) × IsTraced origins parent front
traced_parent {origins} {state} {parent} {symbol} (at_start e) is some =
    let same = same_Some (0, 0) (parent, symbol) (sym e ∙ is) in
    absurd (some (sym (ap (λ (p : ℕ × ℕ). p.0) same)))
traced_parent {origins} {state} {parent} {symbol} (along {parent = before} {symbol = letter} {text = front} e rest) is some =
    let same = same_Some (suc before, letter) (parent, symbol) (sym e ∙ is) in
    let P : ℕ → Type 0 = λ n. IsTraced origins n front in
    (front, subst P (ap (λ (p : ℕ × ℕ). p.0) same) rest)

-- from the parent on it goes along the symbol
along_parent : {origins : List (ℕ × ℕ)} (state parent symbol : ℕ) (before : List ℕ) → numbered origins state ≡ Some (parent, symbol) → parent ≢ 0
    → IsTraced origins parent before → IsTraced origins state (before ++ symbol ∷ [])
along_parent state zero symbol before is some traced = absurd (some refl)
along_parent state (suc parent) symbol before is some traced = along is traced

module _ {origins : List (ℕ × ℕ)} {start parent symbol : ℕ} {symbols : List ℕ} (tracing : IsTracing origins start parent symbol symbols) where
  pub tracing_within : parent ≢ 0 → parent ≤ length origins
  tracing_within some = traced_within (traced_parent tracing.traced tracing.origin some).1

  pub IsTracing-more : parent ≢ 0
      → IsTracing origins start (get_or origins (parent - 1) (0, 0)).0 (get_or origins (parent - 1) (0, 0)).1 (symbols ++ symbol ∷ [])
  IsTracing-more some =
      let front = traced_parent tracing.traced tracing.origin some in record {
        state = parent;
        origin = read_origin origins parent (traced_positive front.1) (traced_within front.1);
        text = front.0;
        traced = front.1;
        rest = λ before from.
            let on = tracing.rest (before ++ symbol ∷ []) (along_parent tracing.state parent symbol before tracing.origin some from) in
            let same : before ++ symbol ∷ [] ++ reverse symbols ≡ before ++ reverse (symbols ++ symbol ∷ []) =
            append_assoc before (symbol ∷ []) (reverse symbols) ∙ ap (λ t. before ++ t) (sym (reverse-append symbols (symbol ∷ []))) in
            let P : List ℕ → Type 0 = λ t. IsTraced origins start t in
            subst P same on;
      }

  -- each state's parent is before it
  pub tracing_smaller : AreFromEarlier origins → parent ≢ 0 → (get_or origins (parent - 1) (0, 0)).0 < parent
  tracing_smaller earlier some =
      let front = traced_parent tracing.traced tracing.origin some in
      by (get_or origins (parent - 1) (0, 0)).0 refl
      (read_origin origins parent (traced_positive front.1) (traced_within front.1)) (traced_positive front.1)
    where
      by : (next : ℕ) → (get_or origins (parent - 1) (0, 0)).0 ≡ next → numbered origins parent ≡ Some (get_or origins (parent - 1) (0, 0))
          → 0 < parent → (get_or origins (parent - 1) (0, 0)).0 < parent
      by zero is read positive = omega arith
      by (suc next) is read positive =
          let before : suc next < parent = earlier parent next (get_or origins (parent - 1) (0, 0)).1
          (read ∙ ap (λ n. Some (n, (get_or origins (parent - 1) (0, 0)).1)) is) in
          omega arith

  -- at the initial state the symbols are the text
  pub IsTraced-whole : parent ≡ 0 → IsTraced origins start (reverse symbols)
  IsTraced-whole none = by tracing.traced
    where
      by : {text : List ℕ} → IsTraced origins tracing.state text → IsTraced origins start (reverse symbols)
      by (at_start e) = tracing.rest [] (at_start e)
      by (along {parent = before} {symbol = letter} e rest) =
          let same = same_Some (suc before, letter) (parent, symbol) (sym e ∙ tracing.origin) in
          let number : suc before ≡ parent = ap (λ (p : ℕ × ℕ). p.0) same in
          absurd (let no : ⊥ = omega arith in no)
