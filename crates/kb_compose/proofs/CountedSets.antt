-- How many sets of pairs texts lead to.
use Rattle.std.proofs.Common.{◌≡◌, ◌↔◌, ◌⊎◌, ℕ, suc, ◌+◌, ◌*◌, ◌<◌, ◌≤◌, Bool, true, false, cond, List, [], ◌∷◌, length, get_or, slice_get, IsSome, Contains, Option, Some, None, refl, sym, ap, ◌∙◌, subst, inl, inr, arith}
use Rattle.std.specs.List.{All, AllPairs, AllZip, filter}
use Rattle.std.proofs.lemmas.Bool.{false≢true, cases_lt}
use Rattle.std.proofs.lemmas.List.Elements.{All-head, All-tail, All-contains, filter_passes, AllZip-get_or, length_all_zip}
use Rattle.std.proofs.lemmas.List.Kept.{AllPairs-filter}
use Rattle.std.proofs.lemmas.Option.{same_Some, slice_get-get_or, get_or_from_slice_get, slice_get_within}
use Rattle.kb_fsa.specs.declared.alphabet.Alphabet.TheVariants.{Pair}
use Rattle.kb_fsa.specs.declared.ended.Ended.{Ended}
use Rattle.kb_fsa.specs.declared.ended.Ended.TheVariants.{Neither, First, Second}
use Rattle.kb_fsa.specs.Table.{Table}
use Rattle.kb_fsa.specs.Language.{Automaton, generators}
use Rattle.kb_explore.specs.Machine.{Machine, leads, HasMoreStates}
use Rattle.kb_explore.specs.Exploration.{numbered, IsExploration}
use Rattle.kb_explore.proofs.CountingLemmas.{MoreThan-numbered}
use Rattle.kb_explore.proofs.ExplorationLemmas.{are_reached, leads_within}
use Rattle.kb_fsadet.proofs.Sets.{same_from_members}
use Rattle.kb_fsadet.proofs.ExactSets.{IsSetOf}
use Rattle.kb_compose.specs.declared.place.Place.{Place}
use Rattle.kb_compose.specs.Composition.{IsPairAfter, CountedComposite}
use Rattle.kb_compose.specs.StatePairs.{number_of, state_pairs}
use Rattle.kb_compose.specs.Progress.{HaveFewSets, HaveMoreSets}
use Rattle.kb_compose.proofs.Stepping.{IsPairTable}
use Rattle.kb_compose.proofs.PlacesAfter.{IsMember, IsPlaceAfter, HasPlace, place_after, states_of_member}

-- whether the two say the same
same_ended : Ended → Ended → Bool
same_ended Neither Neither = true
same_ended First First = true
same_ended Second Second = true
same_ended one other = false

same_ended_is : (one other : Ended) → same_ended one other ≡ true → one ≡ other
unfolding same_ended
same_ended_is Neither Neither is = refl
same_ended_is First First is = refl
same_ended_is Second Second is = refl
same_ended_is Neither First is = absurd (false≢true is)
same_ended_is Neither Second is = absurd (false≢true is)
same_ended_is First Neither is = absurd (false≢true is)
same_ended_is First Second is = absurd (false≢true is)
same_ended_is Second Neither is = absurd (false≢true is)
same_ended_is Second First is = absurd (false≢true is)

-- whether a place has the word ended
has_ended : Ended → Option Place → Bool
has_ended ended None = false
has_ended ended (Some place) = same_ended ended place.ended

-- ---- tests of which one holds of each

kept_more : {X : Type 0} (p : X → Bool) (x : X) (xs : List X) → p x ≡ true → length (filter p (x ∷ xs)) ≡ suc (length (filter p xs))
kept_more {X} p x xs passes = ap (λ b. length (cond b (x ∷ filter p xs) (filter p xs))) passes

kept_before : {X : Type 0} (p : X → Bool) (x : X) (xs : List X) → length (filter p xs) ≤ length (filter p (x ∷ xs))
kept_before {X} p x xs = by (p x)
  where
    by : (b : Bool) → length (filter p xs) ≤ length (cond b (x ∷ filter p xs) (filter p xs))
    by true = omega arith
    by false = omega arith

three_filters : {X : Type 0} (p q r : X → Bool) (xs : List X) → All (λ x. (p x ≡ true) ⊎ ((q x ≡ true) ⊎ (r x ≡ true))) xs
    → length xs ≤ length (filter p xs) + length (filter q xs) + length (filter r xs)
three_filters p q r [] each = omega arith
three_filters {X} p q r (x ∷ xs) each =
    let T = λ (y : X). (p y ≡ true) ⊎ ((q y ≡ true) ⊎ (r y ≡ true)) in
    let rest = three_filters p q r xs (All-tail T x xs each) in
    let one = kept_before p x xs in
    let two = kept_before q x xs in
    let three = kept_before r x xs in
    elim (All-head T x xs each) [
      | inl passes ↦ omega (arith, kept_more p x xs passes)
      | inr others ↦ elim others [
        | inl passes ↦ omega (arith, kept_more q x xs passes)
        | inr passes ↦ omega (arith, kept_more r x xs passes)
      ]
    ]

module _ (first second : Automaton) (pairs : first.alphabet ≡ Pair (generators first.alphabet))
    (one : IsPairTable (generators first.alphabet) first.table) (two : IsPairTable (generators first.alphabet) second.table)
    (ending : List ℕ) where
  abbrev machine : Machine Place
  machine = state_pairs first second ending

  abbrev Member : List ℕ → ℕ → Type 0
  Member = IsMember first second pairs one two

  -- the set of a text is that of its pairs
  pub set_of_text : (text : List ℕ) (place : Place) → leads machine text ≡ Some place → IsSetOf (Member text) place.pairs
  unfolding HasPlace
  set_of_text text place is =
      let P : Option Place → Type 0 = λ o. HasPlace first second pairs one two text o in
      let here : IsPlaceAfter first second pairs one two text place = subst P is (place_after first second pairs one two ending text) in
      here.set

  -- a text with a pair leads to a place
  pub place_of_pair : (text : List ℕ) (pair : ℕ) → Member text pair → (place : Place) × (leads machine text ≡ Some place)
  unfolding HasPlace
  place_of_pair text pair member = by (leads machine text) refl (place_after first second pairs one two ending text)
    where
      by : (o : Option Place) → leads machine text ≡ o → HasPlace first second pairs one two text o → (place : Place) × (leads machine text ≡ Some place)
      by None is none = absurd (none pair member)
      by (Some place) is has = (place, is)

  member_of_pair : (text : List ℕ) (states : ℕ × ℕ) → IsPairAfter first second text states → Member text (number_of states.0 states.1)
  member_of_pair text states after = record { p = states.0; q = states.1; pair_is = refl; after = after }

  -- texts with the same pairs have one set
  same_sets : (text other : List ℕ) (set set' : List ℕ) → IsSetOf (Member text) set → IsSetOf (Member other) set'
      → ((states : ℕ × ℕ) → IsPairAfter first second text states ↔ IsPairAfter first second other states) → set ≡ set'
  same_sets text other set set' here there same =
      same_from_members set set' here.ascends there.ascends (λ pair. (
        λ at.
            let member = (here.members pair).0 at in
            (there.members pair).1 (record { p = member.p; q = member.q; pair_is = member.pair_is; after = (same (member.p, member.q)).0 member.after }),
        λ at.
            let member = (there.members pair).0 at in
            (here.members pair).1 (record { p = member.p; q = member.q; pair_is = member.pair_is; after = (same (member.p, member.q)).1 member.after }),
      ))

  -- and texts with one set have the same pairs
  same_pairs : (text other : List ℕ) (set : List ℕ) → IsSetOf (Member text) set → IsSetOf (Member other) set
      → (states : ℕ × ℕ) → IsPairAfter first second text states → IsPairAfter first second other states
  same_pairs text other set here there states after =
      let pair = number_of states.0 states.1 in
      let member = (there.members pair).0 ((here.members pair).1 (member_of_pair text states after)) in
      let before = states_of_member first second pairs one two text pair states.0 states.1 refl after in
      let behind = states_of_member first second pairs one two other pair member.p member.q member.pair_is member.after in
      let P : ℕ → Type 0 = λ p. IsPairAfter first second other (p, states.1) in
      let Q : ℕ → Type 0 = λ q. IsPairAfter first second other (member.p, q) in
      subst P (sym behind.0 ∙ before.0) (subst Q (sym behind.1 ∙ before.1) member.after)

  some_pair : (text set : List ℕ) → IsSetOf (Member text) set → (states : ℕ × ℕ) × IsPairAfter first second text states
  some_pair text set is = let some = is.some in ((some.1.p, some.1.q), some.1.after)

  -- ---- from places to sets

  ended_parts : (text : List ℕ) → IsSome (leads machine text)
      → (has_ended Neither (leads machine text) ≡ true)
      ⊎ ((has_ended First (leads machine text) ≡ true) ⊎ (has_ended Second (leads machine text) ≡ true))
  unfolding has_ended same_ended
  ended_parts text some = by (leads machine text) some
    where
      by : (o : Option Place) → IsSome o → (has_ended Neither o ≡ true) ⊎ ((has_ended First o ≡ true) ⊎ (has_ended Second o ≡ true))
      by None is = absurd (false≢true is)
      by (Some place) is = parts place.ended
        where
          parts : (ended : Ended) → (same_ended Neither ended ≡ true) ⊎ ((same_ended First ended ≡ true) ⊎ (same_ended Second ended ≡ true))
          parts Neither = inl refl
          parts First = inr (inl refl)
          parts Second = inr (inr refl)

  place_with : (ended : Ended) (text : List ℕ) → has_ended ended (leads machine text) ≡ true
      → (place : Place) × ((leads machine text ≡ Some place) × (ended ≡ place.ended))
  unfolding has_ended
  place_with ended text is = by (leads machine text) refl is
    where
      by : (o : Option Place) → leads machine text ≡ o → has_ended ended o ≡ true
          → (place : Place) × ((leads machine text ≡ Some place) × (ended ≡ place.ended))
      by None at passes = absurd (false≢true passes)
      by (Some place) at passes = (place, (at, same_ended_is ended place.ended passes))

  -- more than m places with the same word ended are more than m sets
  more_with : (m : ℕ) (texts : List (List ℕ)) (ended : Ended) → AllPairs (λ text other. ¬ (leads machine text ≡ leads machine other)) texts
      → m < length (filter (λ text. has_ended ended (leads machine text)) texts) → CountedComposite first second m
  more_with m texts ended differ more =
      let test : List ℕ → Bool = λ text. has_ended ended (leads machine text) in
      let those = filter test texts in
      let passes = filter_passes test texts in
      let apart = AllPairs-filter (λ text other. ¬ (leads machine text ≡ leads machine other)) test texts differ in
      record {
        texts = those;
        many = more;
        count = λ k d within.
            let place = place_with ended (get_or those k d) (passes k d within) in
            some_pair (get_or those k d) place.0.pairs (set_of_text (get_or those k d) place.0 place.1.0);
        differ = λ i j d less within same.
            let text = get_or those i d in
            let other = get_or those j d in
            let here = place_with ended text (passes i d (omega arith)) in
            let there = place_with ended other (passes j d within) in
            let sets = same_sets text other here.0.pairs there.0.pairs (set_of_text text here.0 here.1.0) (set_of_text other there.0 there.1.0) same in
            apart i j d less within (here.1.0 ∙ same_place here.0 there.0 (sym here.1.1 ∙ there.1.1) sets ∙ sym there.1.0);
      }
    where
      same_place : (place other : Place) → place.ended ≡ other.ended → place.pairs ≡ other.pairs → Some place ≡ Some other
      same_place place other a b =
          ap (λ e. Some (record { ended = e; pairs = place.pairs })) a ∙ ap (λ l. Some (record { ended = other.ended; pairs = l })) b

  -- more than three times as many places as the limit have more sets than the limit
  pub more_places : (m : ℕ) → HasMoreStates machine (m * 3) → CountedComposite first second m
  more_places m more =
      let texts = more.texts in
      let neither = λ (text : List ℕ). has_ended Neither (leads machine text) in
      let in_first = λ (text : List ℕ). has_ended First (leads machine text) in
      let in_second = λ (text : List ℕ). has_ended Second (leads machine text) in
      let parts = three_filters neither in_first in_second texts (λ k d within. ended_parts (get_or texts k d) (more.count k d within)) in
      let many = more.many in
      elim (cases_lt m (length (filter neither texts))) [
        | inl enough ↦ more_with m texts Neither more.differ enough
        | inr few ↦ elim (cases_lt m (length (filter in_first texts))) [
          | inl enough ↦ more_with m texts First more.differ enough
          | inr fewer ↦ more_with m texts Second more.differ (omega arith)
        ]
      ]

  -- ---- the sets of all places

  module _ (table : Table) (states : List Place) (origins : List (ℕ × ℕ)) (explored : IsExploration machine table states origins) where
    text_of_place : (place : Place) → Contains states place → (text : List ℕ) × (leads machine text ≡ Some place)
    text_of_place place at =
        let count = explored.one_state_each in
        let within = at.1 in
        let reached = are_reached explored (suc at.0) (record { positive = omega arith; within = omega arith }) in (
          reached.0,
          sym (explored.leads_there reached.0) ∙ ap (numbered states) reached.1.leads
              ∙ slice_get-get_or states at.0 place at.1 ∙ ap (λ p. Some p) at.2,
        )

    -- a text with the set of each place
    texts_of : (sets : List (List ℕ)) → All (λ set. (place : Place) × (Contains states place × (place.pairs ≡ set))) sets
        → (texts : List (List ℕ)) × AllZip (λ text set. IsSetOf (Member text) set) texts sets
    texts_of [] each = ([], tt)
    texts_of (set ∷ sets) each =
        let S = λ (s : List ℕ). (place : Place) × (Contains states place × (place.pairs ≡ s)) in
        let here = All-head S set sets each in
        let text = text_of_place here.0 here.1.0 in
        let is = set_of_text text.0 here.0 text.1 in
        let rest = texts_of sets (All-tail S set sets each) in
        (text.0 ∷ rest.0, (subst (IsSetOf (Member text.0)) here.1.1 is, rest.1))

    -- more sets than the limit are counted
    pub more_sets : (m : ℕ) → HaveMoreSets states m → CountedComposite first second m
    more_sets m more =
        let sets = more.sets in
        let picked = texts_of sets more.sound in
        let texts = picked.0 in
        let R = λ (text : List ℕ) (set : List ℕ). IsSetOf (Member text) set in
        let long = length_all_zip R texts sets picked.1 in
        let many = more.more in
        record {
          texts = texts;
          many = omega arith;
          count = λ k d within. some_pair (get_or texts k d) (get_or sets k d) (AllZip-get_or R texts sets k d d picked.1 within);
          differ = λ i j d less within same.
              let here = AllZip-get_or R texts sets i d d picked.1 (omega arith) in
              let there = AllZip-get_or R texts sets j d d picked.1 within in
              let alike = same_sets (get_or texts i d) (get_or texts j d) (get_or sets i d) (get_or sets j d) here there same in
              let place : i ≡ j = more.distinct i j (get_or sets j d)
              (slice_get-get_or sets i d (omega arith) ∙ ap (λ s. Some s) alike) (slice_get-get_or sets j d (omega arith)) in
              omega arith;
        }

    -- and no more sets than the places have
    pub few_sets : (m : ℕ) → HaveFewSets states m → ¬ CountedComposite first second m
    few_sets m are =
        let sets = are.sets in
        let le = are.few in
        MoreThan-numbered (λ text number. (set : List ℕ) × ((slice_get sets number ≡ Some set) × IsSetOf (Member text) set))
        (λ text some.
        let place = place_of_pair text (number_of some.0.0 some.0.1) (member_of_pair text some.0 some.1) in
        let at = leads_within explored text place.0 place.1 in
        let P = λ (p : Place). Contains sets p.pairs in
        let listed : Contains states place.0 =
        (at.0, slice_get_within states at.0 place.0 at.1.0, get_or_from_slice_get states at.0 place.0 place.0 at.1.0) in
        let found = All-contains P states place.0 are.all listed in
        let within = found.1 in (
          found.0,
          (
            omega arith,
            (
              place.0.pairs,
              (
                slice_get-get_or sets found.0 place.0.pairs found.1 ∙ ap (λ s. Some s) found.2,
                set_of_text text place.0 place.1,
              ),
            ),
          ),
        ))
        (λ text other number here there states_there.
        let same : here.0 ≡ there.0 = same_Some _ _ (sym here.1.0 ∙ there.1.0) in
        let mine = subst (IsSetOf (Member text)) same here.1.1 in (
          same_pairs text other there.0 mine there.1.1 states_there,
          same_pairs other text there.0 there.1.1 mine states_there,
        ))
