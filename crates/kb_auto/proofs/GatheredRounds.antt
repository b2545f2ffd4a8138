-- What is gathered of rules and of failed rounds, round after round.
use Rattle.std.proofs.Common.{◌≡◌, ◌≢◌, ◌↔◌, ◌⊎◌, inl, inr, ℕ, List, [], ◌∷◌, ◌++◌, None, refl, sym, ap, ◌∙◌, subst}
use Rattle.std.specs.Prelude.{map}
use Rattle.kb_word.specs.Words.{OneOf}
use Rattle.kb_word.specs.Rewriting.{IsIrreducible}
use Rattle.kb_diff.specs.Differences.{HaveDifferences}
use Rattle.kb_diff.specs.Groups.{AreRulesOver, Group, group_of}
use Rattle.kb_diff.specs.Keeping.{AddsPairs, IsFull}
use Rattle.kb_diff.specs.declared.grow.Grow.{Grow}
use Rattle.kb_diff.specs.declared.grow.Grow.TheVariants.{Full, Grew}
use Rattle.kb_diff.proofs.PathLemmas.{adds_by}
use Rattle.kb_kept.specs.Listed.{AreEqualitiesOver, Lists, pair_of, rule_equalities}
use Rattle.kb_kept.specs.declared.listing.Listing.{Listing}
use Rattle.kb_kept.specs.declared.equality.Equality.{Equality}
use Rattle.kb_round.specs.Rounds.{RefutesBy}
use Rattle.kb_auto.specs.Autgroup.{IsShort}
use Rattle.kb_auto.specs.Kept.{AddsEquality, IsKept, IsEqualityOfRound, KeepsRounds, KeepsRules, NeedsMore, Tried, of_round, one_more}
use Rattle.kb_auto.specs.Trials.{AddsRound, BringsNothing, Gathers, LacksRoom}
use Rattle.kb_auto.specs.declared.gathering.Gathered.{Gathered}
use Rattle.kb_auto.proofs.EqualitiesOver.{IsEqualityOver, equality_is_over}
use Rattle.kb_auto.proofs.KeptEqualities.{is_kept, is_short, kept_pairs, needed_pairs, needs_over, rounds_over, rules_full, rules_grew}

abbrev Words : Type 0
Words = List (List ℕ)

module _ (tried : Tried) where
  abbrev group : Group
  group = group_of tried.presentation tried.rules

  abbrev Refuted : Words → Equality → Type 0
  Refuted words equality = RefutesBy tried.presentation tried.rules words tried.states equality

  -- ---- the differences of the rules

  pub begins_with_rules : (gathered : Gathered) (answer : Grow) → gathered.differences.group ≡ group → gathered.differences.most ≡ tried.most
      → gathered.rounds.items ≡ [] → KeepsRules tried gathered.differences.words answer → ¬ IsFull answer → Gathers tried gathered
  begins_with_rules gathered answer same most none keeps room =
      let P : List Equality → Type 0 = λ rounds. KeepsRounds tried rounds gathered.differences.words in
      record { group = same; most = most; keeps = subst P (sym none) (rules_grew tried gathered.differences.words answer keeps room) }

  pub rules_lack_room : (gathered : Gathered) (answer : Grow) → gathered.differences.group ≡ group → gathered.differences.most ≡ tried.most
      → gathered.rounds.items ≡ [] → KeepsRules tried gathered.differences.words answer → IsFull answer → LacksRoom tried gathered
  rules_lack_room gathered answer same most none keeps full =
      let P : List Equality → Type 0 = λ rounds. NeedsMore tried rounds gathered.differences.words in
      record { group = same; most = most; needs = subst P (sym none) (rules_full tried gathered.differences.words answer keeps full) }

  -- ---- the differences of a round

  module _ (before : Gathered) (equality : Equality) (gathers : Gathers tried before) (refutes : Refuted before.differences.words equality) where
    of_the_round : (answer : Grow) (after : Gathered) → AddsRound before equality answer after → IsEqualityOfRound tried before.differences.words equality
    of_the_round answer after adds =
        let U : Group → Type 0 = λ it. IsIrreducible (OneOf it.rules) equality.u in
        let V : Group → Type 0 = λ it. IsIrreducible (OneOf it.rules) equality.v in
        record {
          refutes = refutes;
          first = subst U gathers.group adds.first;
          second = subst V gathers.group adds.second;
        }

    added : (answer : Grow) (after : Gathered) → AddsRound before equality answer after
        → AddsEquality tried equality before.differences.words after.differences.words answer
    added answer after adds =
        adds_by group before.differences.group tried.most before.differences.most equality.u equality.v equality.u equality.v before.differences.words
        after.differences.words answer gathers.group gathers.most refl refl adds.adds

    -- there are more
    pub gathers_more : (after : Gathered) → AddsRound before equality Grew after → Gathers tried after
    gathers_more after adds =
        let P : List Equality → Type 0 = λ rounds. KeepsRounds tried rounds after.differences.words in
        record {
          group = adds.group ∙ gathers.group;
          most = adds.most ∙ gathers.most;
          keeps = subst P (sym adds.rounds) (one_more gathers.keeps (of_the_round Grew after adds) (added Grew after adds));
        }

    -- there is no room for one of them
    pub lacks_room : (after : Gathered) (needed : List ℕ) (place : ℕ) → AddsRound before equality (Full needed place) after → LacksRoom tried after
    lacks_room after needed place adds =
        let P : List Equality → Type 0 = λ rounds. NeedsMore tried rounds after.differences.words in
        record {
          group = adds.group ∙ gathers.group;
          most = adds.most ∙ gathers.most;
          needs = subst P (sym adds.rounds)
              (of_round gathers.keeps (of_the_round (Full needed place) after adds) (added (Full needed place) after adds));
        }

    -- there are none
    pub nothing_in_group : BringsNothing before equality
        → IsIrreducible (OneOf tried.rules) equality.u → IsIrreducible (OneOf tried.rules) equality.v
        → HaveDifferences group before.differences.words equality.u equality.v
    nothing_in_group nothing =
        let P : Group → Type 0 = λ it. IsIrreducible (OneOf it.rules) equality.u → IsIrreducible (OneOf it.rules) equality.v
        → HaveDifferences it before.differences.words equality.u equality.v in
        subst P gathers.group nothing

    -- its words are over the generators
    pub equality_in_group : AreRulesOver tried.presentation.n tried.rules → IsEqualityOver before.differences.group.n equality
    equality_in_group over =
        let P : Group → Type 0 = λ it. IsEqualityOver it.n equality in
        let words = equality_is_over tried.presentation tried.rules before.differences.words tried.states equality over refutes in
        subst P (sym gathers.group) words

  -- ---- listings

  -- the differences of the rules and of the rounds, with what is answered
  abbrev AreOfPairs : Gathered → Grow → Type 0
  AreOfPairs gathered answer = AddsPairs gathered.differences.group gathered.differences.most
      (tried.rules ++ map pair_of gathered.rounds.items) ([] ∷ []) gathered.differences.words answer

  -- they are of the group in its own words
  by_own_group : (gathered : Gathered) (answer : Grow) → gathered.differences.group ≡ group → gathered.differences.most ≡ tried.most
      → AddsPairs group tried.most (tried.rules ++ map pair_of gathered.rounds.items) ([] ∷ []) gathered.differences.words answer
      → AreOfPairs gathered answer
  by_own_group gathered answer same most adds =
      let pairs = tried.rules ++ map pair_of gathered.rounds.items in
      let G : Group → Type 0 = λ it. AddsPairs it tried.most pairs ([] ∷ []) gathered.differences.words answer in
      let M : ℕ → Type 0 = λ it. AddsPairs gathered.differences.group it pairs ([] ∷ []) gathered.differences.words answer in
      subst M (sym most) (subst G (sym same) adds)

  pub gathered_pairs : (gathered : Gathered) → Gathers tried gathered → AreOfPairs gathered Grew
  gathered_pairs gathered gathers = by_own_group gathered Grew gathers.group gathers.most (kept_pairs tried gathers.keeps)

  pub lacking_pairs : (gathered : Gathered) → LacksRoom tried gathered → (needed : List ℕ) × (place : ℕ) × AreOfPairs gathered (Full needed place)
  lacking_pairs gathered lacks =
      let all = needed_pairs tried lacks.needs in
      (all.0, all.1, by_own_group gathered (Full all.0 all.1) lacks.group lacks.most all.2)

  module _ (gathered : Gathered) (same : gathered.differences.group ≡ group) where
    by_n : (P : ℕ → Type 0) → P gathered.differences.group.n → P tried.presentation.n
    by_n P holds = subst P (ap (λ (it : Group). it.n) same) holds

    back_to_n : (P : ℕ → Type 0) → P tried.presentation.n → P gathered.differences.group.n
    back_to_n P holds = subst P (sym (ap (λ (it : Group). it.n) same)) holds

    pub gathered_over : AreRulesOver gathered.differences.group.n tried.rules → Gathers tried gathered
        → AreEqualitiesOver gathered.differences.group.n gathered.rounds.items
    gathered_over over gathers =
        back_to_n (λ n. AreEqualitiesOver n gathered.rounds.items)
        (rounds_over tried (by_n (λ n. AreRulesOver n tried.rules) over) gathers.keeps)

    pub lacking_over : AreRulesOver gathered.differences.group.n tried.rules → LacksRoom tried gathered
        → AreEqualitiesOver gathered.differences.group.n gathered.rounds.items
    lacking_over over lacks =
        back_to_n (λ n. AreEqualitiesOver n gathered.rounds.items)
        (needs_over tried (by_n (λ n. AreRulesOver n tried.rules) over) lacks.needs)

    own_letters : AreRulesOver tried.presentation.n tried.rules → AreRulesOver gathered.differences.group.n tried.rules
    own_letters over = back_to_n (λ n. AreRulesOver n tried.rules) over

    lists_in_group : (listing : Listing) → Lists gathered.differences.group gathered.differences.words listing
        → Lists group gathered.differences.words listing
    lists_in_group listing lists =
        let P : Group → Type 0 = λ it. Lists it gathered.differences.words listing in subst P same lists

  -- the rules and the equalities of the rounds are over the generators
  pub stand_over : (gathered : Gathered) → AreRulesOver tried.presentation.n tried.rules → (Gathers tried gathered ⊎ LacksRoom tried gathered)
      → AreRulesOver gathered.differences.group.n tried.rules × AreEqualitiesOver gathered.differences.group.n gathered.rounds.items
  stand_over gathered over (inl gathers) =
      let own = own_letters gathered gathers.group over in
      (own, gathered_over gathered gathers.group own gathers)
  stand_over gathered over (inr lacks) =
      let own = own_letters gathered lacks.group over in
      (own, lacking_over gathered lacks.group own lacks)

  pub stand_for_pairs : (gathered : Gathered) → (Gathers tried gathered ⊎ LacksRoom tried gathered) → (answer : Grow) × AreOfPairs gathered answer
  stand_for_pairs gathered (inl gathers) = (Grew, gathered_pairs gathered gathers)
  stand_for_pairs gathered (inr lacks) =
      let all = lacking_pairs gathered lacks in (Full all.0 all.1, all.2)

  module _ (gathered : Gathered) (listing : Listing)
      (equalities : listing.equalities.items ≡ rule_equalities tried.rules ++ gathered.rounds.items)
      (lists : Lists gathered.differences.group gathered.differences.words listing)
      (needed : (answer : Grow) → AreOfPairs gathered answer → (listing.needed ≢ None) ↔ IsFull answer) where
    pub lists_kept : Gathers tried gathered → IsKept tried gathered.differences.words listing
    lists_kept gathers =
        is_kept tried gathered.differences.words gathered.rounds.items listing gathers.keeps equalities
        (lists_in_group gathered gathers.group listing lists) (needed Grew (gathered_pairs gathered gathers))

    pub lists_short : LacksRoom tried gathered → IsShort tried listing
    lists_short lacks =
        let all = lacking_pairs gathered lacks in
        is_short tried gathered.differences.words gathered.rounds.items listing all.0 all.1 lacks.needs equalities
        (lists_in_group gathered lacks.group listing lists) (needed (Full all.0 all.1) all.2)
