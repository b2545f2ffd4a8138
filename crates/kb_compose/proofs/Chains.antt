-- Canonical composites along a word.
use Rattle.std.proofs.Common.{◌≡◌, ◌≢◌, ◌↔◌, ℕ, suc, ◌-◌, ◌<◌, ◌≤◌, List, [], ◌∷◌, ◌++◌, length, get_or, take, drop, Some, refl, sym, ap, ◌∙◌, subst, arith, take-append-drop}
use Rattle.std.proofs.Math.Seq.{drop-cons}
use Rattle.std.proofs.lemmas.Bool.{false≢true}
use Rattle.std.proofs.lemmas.Option.{same_Some, slice_get-get_or}
use Rattle.kb_word.specs.Relations.{IsOver}
use Rattle.kb_fsa.specs.declared.alphabet.Alphabet.{Alphabet}
use Rattle.kb_fsa.specs.declared.alphabet.Alphabet.TheVariants.{Plain, Pair}
use Rattle.kb_fsa.specs.Table.{AcceptsFrom, is_accepting}
use Rattle.kb_fsa.specs.Padding.{padded, IsPadded}
use Rattle.kb_fsa.specs.Language.{Automaton, IsAutomaton, AcceptsText, AcceptsPair, SameLanguage, IsTextOf, generators}
use Rattle.kb_fsa.specs.Canonical.{IsCanonical}
use Rattle.kb_explore.specs.Exploration.{numbered}
use Rattle.kb_compose.specs.Composition.{HasMiddle, IsComposite, CountedComposite}
use Rattle.kb_compose.specs.Along.{Follows, IsAlong, IsCanonicalComposite, CountedAlong, identity_on}
use Rattle.kb_compose.specs.Along.CountedAlong.{at_once, later}
use Rattle.kb_compose.proofs.Identities.{identity_accepts}

-- From the one automaton the word's letters lead by canonical composites, none of which counts more than m, to the
-- other.
pub data IsChain (multipliers : List Automaton) (m : ℕ) : Automaton → List ℕ → Automaton → Type 0 where
  ended : {start final : Automaton} → start ≡ final → IsChain multipliers m start [] final
  by_letter : {start multiplier next final : Automaton} {x : ℕ} {w : List ℕ} → numbered multipliers x ≡ Some multiplier
      → ¬ CountedComposite start multiplier m → IsCanonicalComposite start multiplier next
      → IsChain multipliers m next w final → IsChain multipliers m start (x ∷ w) final

-- what has one language has one canonical automaton
abbrev pub OneCanonical : Type 0
OneCanonical = (one other : Automaton) → IsAutomaton one → IsAutomaton other → one.alphabet ≡ other.alphabet
    → IsCanonical one.table → IsCanonical other.table → SameLanguage one other → one ≡ other

module _ (multipliers : List Automaton) (m : ℕ) where
  -- a letter more
  pub chain_more : {start before multiplier final : Automaton} (x : ℕ) {w : List ℕ} → IsChain multipliers m start w before
      → numbered multipliers x ≡ Some multiplier → ¬ CountedComposite before multiplier m
      → IsCanonicalComposite before multiplier final → IsChain multipliers m start (w ++ x ∷ []) final
  chain_more {final = final} x (ended same) is few composite =
      let P : Automaton → Type 0 = λ a. IsChain multipliers m a (x ∷ []) final in
      subst P (sym same) (by_letter is few composite (ended refl))
  chain_more x (by_letter is' few' composite' chain) is few composite =
      by_letter is' few' composite' (chain_more x chain is few composite)

  -- the composite behind a chain counts too much
  pub counted_behind : {start before multiplier : Automaton} (x : ℕ) {w : List ℕ} (rest : List ℕ) → IsChain multipliers m start w before
      → numbered multipliers x ≡ Some multiplier → CountedComposite before multiplier m
      → CountedAlong multipliers m start (w ++ x ∷ rest)
  counted_behind x rest (ended same) is more =
      let P : Automaton → Type 0 = λ a. CountedAlong multipliers m a (x ∷ rest) in
      subst P (sym same) (at_once is more)
  counted_behind x rest (by_letter is' few composite chain) is more = later is' composite (counted_behind x rest chain is more)

  module _ (n : ℕ) (unique : OneCanonical) where
    -- the text of an accepted pair
    accepted_pair : (one : Automaton) → one.alphabet ≡ Pair n → IsAutomaton one → (text : List ℕ) → AcceptsText one text → IsPadded n text
    accepted_pair one pairs is text accepts =
        let P : Alphabet → Type 0 = λ alphabet. IsTextOf alphabet text in
        subst P pairs (is.texts text (λ none. false≢true (ap (is_accepting one.table) (sym none) ∙ accepts)))

    half : (first second one other : Automaton) → first.alphabet ≡ Pair n → IsCanonicalComposite first second one
        → IsCanonicalComposite first second other → (text : List ℕ) → AcceptsText one text → AcceptsText other text
    half first second one other pairs here there text accepts =
        let is = accepted_pair one (here.alphabet ∙ pairs) here.automaton text accepts in
        let n_is : generators first.alphabet ≡ n = ap generators pairs in
        let one_is : generators one.alphabet ≡ n = ap generators (here.alphabet ∙ pairs) in
        let other_is : generators other.alphabet ≡ n = ap generators (there.alphabet ∙ pairs) in
        let Over = λ (w : List ℕ) (k : ℕ). IsOver k w in
        let P = λ (k : ℕ). AcceptsFrom one.table one.table.initial (padded k is.first is.second) in
        let Q = λ (k : ℕ). AcceptsFrom other.table other.table.initial (padded k is.first is.second) in
        let over_u = subst (Over is.first) (sym n_is) is.first_over in
        let over_v = subst (Over is.second) (sym n_is) is.second_over in
        let middle = (here.language is.first is.second over_u over_v).0 (subst P (sym one_is) (subst (AcceptsText one) is.is_text accepts)) in
        subst (AcceptsText other) (sym is.is_text) (subst Q other_is ((there.language is.first is.second over_u over_v).1 middle))

    one_composite : (first second one other : Automaton) → first.alphabet ≡ Pair n → IsCanonicalComposite first second one
        → IsCanonicalComposite first second other → one ≡ other
    one_composite first second one other pairs here there =
        unique one other here.automaton there.automaton (here.alphabet ∙ sym there.alphabet) here.canonical there.canonical
        (λ text. (half first second one other pairs here there text, half first second other one pairs there here text))

    -- no composite of a chain counts too much
    pub few_along : {start final : Automaton} {w : List ℕ} → start.alphabet ≡ Pair n → IsChain multipliers m start w final
        → ¬ CountedAlong multipliers m start w
    few_along pairs (ended same) counted = elim counted [ ]
    few_along {start} pairs (by_letter {multiplier = multiplier} is few composite chain) (at_once {multiplier = other} is' more) =
        let same : other ≡ multiplier = same_Some _ _ (sym is' ∙ is) in
        let P : Automaton → Type 0 = λ a. CountedComposite start a m in
        few (subst P same more)
    few_along {start} pairs (by_letter {multiplier = multiplier} {next = next} {w = w} is few composite chain)
        (later {multiplier = other} {next = next'} is' composite' rest) =
        let same : other ≡ multiplier = same_Some _ _ (sym is' ∙ is) in
        let P : Automaton → Type 0 = λ a. IsCanonicalComposite start a next' in
        let Q : Automaton → Type 0 = λ a. CountedAlong multipliers m a w in
        let next_is : next' ≡ next = one_composite start multiplier next' next pairs (subst P same composite') composite in
        few_along (composite.alphabet ∙ pairs) chain (subst Q next_is rest)

  -- ---- the language

  -- the pair of words that a chain accepts: by some word that the start has beside the first
  pub record IsBy (n : ℕ) (start : Automaton) (w u v : List ℕ) : Type 0 where
    pub word : List ℕ
    pub over : IsOver n word
    pub accepted : AcceptsFrom start.table start.table.initial (padded n u word)
    pub follows : Follows n multipliers w word v

  pub chain_language : {start final : Automaton} {w : List ℕ} (n : ℕ) → start.alphabet ≡ Pair n
      → IsChain multipliers m start w final → (u v : List ℕ) → IsOver n u → IsOver n v
      → AcceptsFrom final.table final.table.initial (padded n u v) ↔ IsBy n start w u v
  chain_language {start} n pairs (ended same) u v over_u over_v =
      let P : Automaton → Type 0 = λ a. AcceptsFrom a.table a.table.initial (padded n u v) in (
        λ accepts. record { word = v; over = over_v; accepted = subst P (sym same) accepts; follows = refl },
        λ by.
            let Q : List ℕ → Type 0 = λ t. AcceptsFrom start.table start.table.initial (padded n u t) in
            subst P same (subst Q by.follows by.accepted),
      )
  chain_language {start} n pairs (by_letter {multiplier = multiplier} {next = next} {x = x} {w = w} is few composite chain) u v over_u over_v =
      let rest = chain_language n (composite.alphabet ∙ pairs) chain u v over_u over_v in
      let n_is : generators start.alphabet ≡ n = ap generators pairs in
      let next_is : generators next.alphabet ≡ n = ap generators (composite.alphabet ∙ pairs) in
      let Over = λ (t : List ℕ) (k : ℕ). IsOver k t in
      let Start = λ (t : List ℕ) (k : ℕ). AcceptsFrom start.table start.table.initial (padded k u t) in
      let Next = λ (t : List ℕ) (k : ℕ). AcceptsFrom next.table next.table.initial (padded k u t) in (
        λ accepts.
            let by = rest.0 accepts in
            let middle = (composite.language u by.word (subst (Over u) (sym n_is) over_u) (subst (Over by.word) (sym n_is) by.over)).0
            (subst (Next by.word) (sym next_is) by.accepted) in
            record {
              word = middle.middle;
              over = subst (Over middle.middle) n_is middle.over;
              accepted = subst (Start middle.middle) n_is middle.in_first;
              follows = (
                by.word,
                (record { multiplier = multiplier; is_its = is; second_over = by.over; accepted = middle.in_second }, by.follows),
              );
            },
        λ by.
            let to = by.follows.0 in
            let step = by.follows.1.0 in
            let same : step.multiplier ≡ multiplier = same_Some _ _ (sym step.is_its ∙ is) in
            let P : Automaton → Type 0 = λ a. AcceptsPair a by.word to in
            let middle : HasMiddle start multiplier u to = record {
              middle = by.word;
              over = subst (Over by.word) (sym n_is) by.over;
              in_first = subst (Start by.word) (sym n_is) by.accepted;
              in_second = subst P same step.accepted;
            } in
            let next_accepts = (composite.language u to (subst (Over u) (sym n_is) over_u) (subst (Over to) (sym n_is) step.second_over)).1 middle in
            rest.1 (record { word = to; over = step.second_over; accepted = subst (Next to) next_is next_accepts; follows = by.follows.1.1 }),
      )

  -- without letters the chain ends where it starts
  pub chain_none : {start final : Automaton} {w : List ℕ} → IsChain multipliers m start w final → w ≡ [] → start ≡ final
  chain_none (ended same) none = same
  chain_none (by_letter is few composite chain) none = cc

  chain_keeps : {start final : Automaton} {w : List ℕ} → IsCanonical start.table → IsChain multipliers m start w final → IsCanonical final.table
  chain_keeps canonical (ended same) = let P : Automaton → Type 0 = λ a. IsCanonical a.table in subst P same canonical
  chain_keeps canonical (by_letter is few composite chain) = chain_keeps composite.canonical chain

  -- with one it ends in a canonical automaton
  pub chain_canonical : {start final : Automaton} {w : List ℕ} → IsChain multipliers m start w final → w ≢ [] → IsCanonical final.table
  chain_canonical (ended same) some = absurd (some refl)
  chain_canonical (by_letter is few composite chain) some = chain_keeps composite.canonical chain

  -- along a word, from the identity on
  pub along_language : (acceptor along : Automaton) (w : List ℕ) → acceptor.alphabet ≡ Plain (generators acceptor.alphabet)
      → IsAutomaton acceptor → along.alphabet ≡ Pair (generators acceptor.alphabet)
      → IsChain multipliers m (identity_on acceptor) w along → IsAlong acceptor multipliers w along
  along_language acceptor along w plain is alphabet chain u v over_u over_v =
      let n = generators acceptor.alphabet in
      let means = chain_language n refl chain u v over_u over_v in
      let P = λ (k : ℕ). AcceptsFrom along.table along.table.initial (padded k u v) in
      let n_is : generators along.alphabet ≡ n = ap generators alphabet in (
        λ accepts.
            let by = means.0 (subst P n_is accepts) in
            let both = (identity_accepts acceptor n plain is u by.word over_u by.over).0 by.accepted in
            let Q : List ℕ → Type 0 = λ t. Follows n multipliers w t v in
            (both.0, subst Q (sym both.1) by.follows),
        λ both. subst P (sym n_is) (means.1 (record {
          word = u;
          over = over_u;
          accepted = (identity_accepts acceptor n plain is u u over_u over_u).1 (both.0, refl);
          follows = both.1;
        })),
      )

-- ---- one step

-- the multiplier of a letter
pub multiplier_at : (multipliers : List Automaton) (x : ℕ) (multiplier : Automaton) → 0 < x → x ≤ length multipliers
    → multiplier ≡ get_or multipliers (x - 1) multiplier → numbered multipliers x ≡ Some multiplier
multiplier_at multipliers x multiplier some within is =
    let number : x ≡ suc (x - 1) = omega arith in
    ap (numbered multipliers) number ∙ slice_get-get_or multipliers (x - 1) multiplier (omega arith) ∙ ap (λ a. Some a) (sym is)

-- the word is what is passed, the letter, and the rest
pub word_split : (w : List ℕ) (place d : ℕ) → place < length w → take place w ++ get_or w place d ∷ drop (suc place) w ≡ w
word_split w place d within =
    ap (λ rest. take place w ++ rest) (sym (drop-cons w place d within)) ∙ take-append-drop place w

-- an automaton of the same language is a composite too
pub same_composite : (first second one other : Automaton) → IsComposite first second one → SameLanguage one other
    → other.alphabet ≡ one.alphabet → IsComposite first second other
same_composite first second one other is same alphabet u v over_u over_v =
    let n_is : generators other.alphabet ≡ generators one.alphabet = ap generators alphabet in
    let P = λ (k : ℕ). AcceptsText other (padded k u v) in
    let text = padded (generators one.alphabet) u v in
    let means = is u v over_u over_v in (
      λ accepts. means.0 ((same text).1 (subst P n_is accepts)),
      λ middle. subst P (sym n_is) ((same text).0 (means.1 middle)),
    )
