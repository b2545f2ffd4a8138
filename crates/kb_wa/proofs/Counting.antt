-- The states of the dictionary trie stand for the proper prefixes of left sides.
use Rattle.std.proofs.Common.{◌≡◌, ◌⊎◌, ℕ, ◌<◌, ◌≤◌, List, [], ◌++◌, map, length, get_or, slice_get, Option, Some, None, IsSome, is_some, refl, sym, ap, ◌∙◌, subst, inl, inr, arith, append_assoc, length-append}
use Rattle.std.proofs.lemmas.Bool.{cases_lt}
use Rattle.std.proofs.lemmas.List.{append-nil, nil_from_length, get_or-map, length-map}
use Rattle.std.proofs.lemmas.Option.{slice_get-get_or, same_Some, slice_get_within}
use Rattle.kb_word.specs.Words.{Pair, OneOf}
use Rattle.kb_word.specs.Relations.{IsOver}
use Rattle.kb_word.specs.Rewriting.{IsIrreducible}
use Rattle.kb_rules.proofs.Lists.{All-front}
use Rattle.kb_explore.specs.Machine.{leads, HasMoreStates}
use Rattle.kb_explore.proofs.CountingLemmas.{MoreThan-kept, MoreThan-numbered}
use Rattle.kb_trie.specs.States.{HasWord, States, word}
use Rattle.kb_trie.proofs.Below.{beginning}
use Rattle.kb_wa.specs.Prefixes.{CountedPrefixes, IsProperPrefix}
use Rattle.kb_wa.specs.Tries.{IsTrieOf}
use Rattle.kb_wa.specs.Dictionary.{dictionary}
use Rattle.kb_wa.proofs.States.{stands_for_all}
use Rattle.kb_wa.proofs.Reading.{IsDictionary, IsRead, left_of, no_rule, read_there, leads_somewhere}

-- the empty word or a proper prefix
abbrev pub IsCounted : List Pair → List ℕ → Type 0
IsCounted rules w = (w ≡ []) ⊎ IsProperPrefix rules w

-- the word of a state, and the empty word for none
word_at : List (List ℕ) → Option ℕ → List ℕ
word_at words None = []
word_at words (Some state) = word words state

-- each such word has a state
has_state : {rules : List Pair} {trie : States} → IsTrieOf rules (length rules) trie → (w : List ℕ) → IsCounted rules w
    → (state : ℕ) × HasWord trie.words w state
has_state is w (inl nil) = (0, record { within = is.are.some; is = is.are.root ∙ sym nil })
has_state {rules} {trie} is w (inr prefix) =
    let index : ℕ = prefix.is_rule.0 in
    let left = left_of rules index prefix.rule prefix.is_rule.1 in
    let own = is.complete index (slice_get_within rules index prefix.rule prefix.is_rule.1) in
    beginning trie.words is.are w own.state prefix.rest own.has.within (own.has.is ∙ left ∙ prefix.whole)

-- so there are no more of these words than states
pub few_prefixes : {rules list : List Pair} {trie : States} {m : ℕ} → list ≡ rules → IsTrieOf list (length list) trie → length trie.words ≤ m
    → ¬ CountedPrefixes rules m
few_prefixes {rules} {trie} same is few =
    let P : List Pair → Type 0 = λ rules. IsTrieOf rules (length rules) trie in
    let own : IsTrieOf rules (length rules) trie = subst P same is in
    MoreThan-numbered (λ w state. word trie.words state ≡ w)
    (λ w counted.
    let has = has_state own w counted in
    let within = has.1.within in
    (has.0, (omega arith, has.1.is)))
    (λ w other state one two. sym one ∙ two)

module _ {n : ℕ} {rules : List Pair} {trie : States} (given : IsDictionary n rules trie) where
  -- a proper prefix of a left side is irreducible
  prefix_irreducible : (w : List ℕ) → IsProperPrefix rules w → IsIrreducible (OneOf rules) w
  prefix_irreducible w prefix before rule after one whole =
      let longer : prefix.rule.0 ≡ before ++ rule.0 ++ (after ++ prefix.rest) =
      prefix.whole ∙ ap (λ (u : List ℕ). u ++ prefix.rest) whole ∙ append_assoc (before ++ rule.0) after prefix.rest in
      let index : ℕ = prefix.is_rule.0 in
      let same : index ≡ one.0 =
      given.apart index one.0 prefix.rule rule prefix.is_rule.1 one.1
      (length before, record { before = before; after = after ++ prefix.rest; whole = longer; at = refl }) in
      let rules_same : prefix.rule ≡ rule =
      same_Some prefix.rule rule (sym prefix.is_rule.1 ∙ ap (slice_get rules) same ∙ one.1) in
      let lefts : length prefix.rule.0 ≡ length rule.0 = ap (λ (r : Pair). length r.0) rules_same in
      prefix.longer (nil_from_length prefix.rest
      (omega (
        arith,
        lefts,
        ap length longer,
        length-append (before ++ rule.0) (after ++ prefix.rest),
        length-append before rule.0,
        length-append after prefix.rest,
      )))

  counted_over : (w : List ℕ) → IsCounted rules w → IsOver n w × IsIrreducible (OneOf rules) w
  counted_over w (inl nil) =
      let there = read_there given [] 0 refl in
      let P : List ℕ → Type 0 = λ u. IsOver n u × IsIrreducible (OneOf rules) u in
      subst P (sym nil) (there.over, there.irreducible)
  counted_over w (inr prefix) = (
    All-front (λ (y : ℕ). (0 < y) × (y ≤ n)) w prefix.rule.0 prefix.rest prefix.whole (given.over prefix.rule prefix.is_rule),
    prefix_irreducible w prefix,
  )

  -- each such word leads to its own state
  own_state : (w : List ℕ) → IsCounted rules w → (state : ℕ) × ((leads (dictionary n trie) w ≡ Some state) × (word trie.words state ≡ w))
  own_state w counted =
      let good = counted_over w counted in
      let there = leads_somewhere given w good.0 good.1 in
      let read = read_there given w there.0 there.1 in
      let own = has_state given.is w counted in
      (there.0, (there.1, stands_for_all trie.words w there.0 own.0 read.stands own.1))

  pub states_from_prefixes : (m : ℕ) → CountedPrefixes rules m → HasMoreStates (dictionary n trie) m
  states_from_prefixes m more =
      MoreThan-kept more (λ w counted. ap is_some (own_state w counted).1.0)
      (λ w other one two same.
      let first = own_state w one in
      let second = own_state other two in
      let states : first.0 ≡ second.0 = same_Some first.0 second.0 (sym first.1.0 ∙ same ∙ second.1.0) in
      sym first.1.1 ∙ ap (word trie.words) states ∙ second.1.1)

  -- the state of an irreducible word stands for such a word
  counted_state : (w : List ℕ) (state : ℕ) → IsRead n rules trie w state → IsCounted rules (word trie.words state)
  counted_state w state read =
      let words : List (List ℕ) = trie.words in
      elim (cases_lt 0 state) [
        | inl some ↦
            let begins = given.is.beginnings state some read.stands.within in
            let rule : Pair = get_or rules begins.place no_rule in
            let one : OneOf rules rule = (begins.place, slice_get-get_or rules begins.place no_rule begins.within) in
            let ends = read.stands.longest.ends in
            inr (record {
              rule = rule;
              rest = begins.begins.rest;
              is_rule = one;
              whole = begins.begins.whole;
              longer = λ none.
                  let left : rule.0 ≡ word words state =
                  begins.begins.whole ∙ ap (λ (u : List ℕ). word words state ++ u) none ∙ append-nil (word words state) in
                  read.irreducible ends.0 rule []
                  one (ends.1 ∙ ap (λ (u : List ℕ). ends.0 ++ u) (sym left) ∙ sym (append-nil (ends.0 ++ rule.0)));
            })
        | inr first ↦ let root : state ≡ 0 = omega arith in inl (ap (word words) root ∙ given.is.are.root)
      ]

  counted_at : (w : List ℕ) (there : Option ℕ) → leads (dictionary n trie) w ≡ there → IsSome there
      → IsCounted rules (word_at trie.words there)
  unfolding word_at
  counted_at w None leads_there some = absurd (let no : ⊥ = cc in no)
  counted_at w (Some state) leads_there some = counted_state w state (read_there given w state leads_there)

  same_at : (w other : List ℕ) (one two : Option ℕ) → leads (dictionary n trie) w ≡ one → leads (dictionary n trie) other ≡ two
      → IsSome one → IsSome two → word_at trie.words one ≡ word_at trie.words two → one ≡ two
  unfolding word_at
  same_at w other None two first second some more same = absurd (let no : ⊥ = cc in no)
  same_at w other (Some state) None first second some more same = absurd (let no : ⊥ = cc in no)
  same_at w other (Some state) (Some next) first second some more same =
      let one = read_there given w state first in
      let two = read_there given other next second in
      ap (λ (s : ℕ). Some s) (given.is.are.apart state next one.stands.within two.stands.within same)

  pub prefixes_from_states : (m : ℕ) → HasMoreStates (dictionary n trie) m → CountedPrefixes rules m
  prefixes_from_states m more =
      let spelled : List ℕ → List ℕ = λ w. word_at trie.words (leads (dictionary n trie) w) in
      let texts : List (List ℕ) = more.texts in
      let count : length (map spelled texts) ≡ length texts = length-map texts spelled in
      let at : (k : ℕ) (d : List ℕ) → k < length texts → get_or (map spelled texts) k d ≡ spelled (get_or texts k []) =
      λ k d within. get_or-map spelled texts k [] d within in
      record {
        texts = map spelled texts;
        many = omega (arith, more.many);
        count = λ k d within.
            let inside : k < length texts = omega arith in
            let w : List ℕ = get_or texts k [] in
            subst (IsCounted rules) (sym (at k d inside)) (counted_at w (leads (dictionary n trie) w) refl (more.count k [] inside));
        differ = λ i j d less within same.
            let inside : j < length texts = omega arith in
            let early : i < length texts = omega arith in
            let w : List ℕ = get_or texts i [] in
            let other : List ℕ = get_or texts j [] in
            more.differ i j [] less inside
            (same_at w other (leads (dictionary n trie) w) (leads (dictionary n trie) other) refl refl
            (more.count i [] early) (more.count j [] inside) (sym (at i d early) ∙ same ∙ at j d inside));
      }
