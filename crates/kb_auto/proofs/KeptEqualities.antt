-- The differences that are kept of rules and of failed rounds, as those of one list of pairs.
use Rattle.std.proofs.Common.{◌≡◌, ◌≢◌, ◌↔◌, ◌⊎◌, ℕ, ◌<◌, ◌≤◌, inl, inr, List, [], ◌∷◌, ◌++◌, length, Option, Some, None, refl, sym, ap, ◌∙◌, subst, arith, append_assoc, length-append}
use Rattle.std.specs.Prelude.{map, All}
use Rattle.std.specs.List.{Contains}
use Rattle.std.proofs.lemmas.List.{append-nil, map-append}
use Rattle.std.proofs.lemmas.List.Elements.{All-nil, All-push}
use Rattle.kb_word.specs.Words.{Pair}
use Rattle.kb_diff.specs.Groups.{AreRulesOver, Group, group_of}
use Rattle.kb_diff.specs.Keeping.{Adds, AddsEach, AddsPairs, Grows, IsFull, Keeps, each, grown, no_room, stopped}
use Rattle.kb_diff.specs.declared.grow.Grow.{Grow}
use Rattle.kb_diff.specs.declared.grow.Grow.TheVariants.{Full, Grew, Same}
use Rattle.kb_diff.proofs.Growing.{Keeps-front, Keeps-seen}
use Rattle.kb_diff.proofs.PathLemmas.{each_more}
use Rattle.kb_kept.specs.Listed.{AreEqualitiesOver, Lists, pair_of, rule_equalities}
use Rattle.kb_kept.specs.declared.listing.Listing.{Listing}
use Rattle.kb_kept.specs.declared.equality.Equality.{Equality}
use Rattle.kb_auto.specs.Autgroup.{IsShort}
use Rattle.kb_auto.specs.Kept.{IsKept, IsEqualityOfRound, KeepsRounds, KeepsRules, NeedsMore, Tried, of_round, of_rule, one_more, rules_alone}
use Rattle.kb_auto.proofs.EqualitiesOver.{IsEqualityOver, equality_is_over}

abbrev Words : Type 0
Words = List (List ℕ)

-- ---- words that are added

longer_or_same : (old rest new : Words) → new ≡ old ++ rest → (new ≡ old) ⊎ (length old < length new)
longer_or_same old [] new is = inl (is ∙ append-nil old)
longer_or_same old (word ∷ rest) new is =
    let long = length-append old (word ∷ rest) in
    let same = ap length is in
    inr (omega (arith, long, same))

keeps_longer : {old seen new : Words} → Keeps old seen new → ¬ All (Contains old) seen → length old < length new
keeps_longer {old = old} {seen = seen} {new = new} keeps not_all =
    let front = Keeps-front keeps in
    elim (longer_or_same old front.0 new front.1) [
      | inl same ↦
          let P : Words → Type 0 = λ words. All (Contains words) seen in
          absurd (not_all (subst P same (Keeps-seen keeps)))
      | inr longer ↦ longer
    ]

grew_longer : (most : ℕ) (seen old new : Words) → Grows most seen old new Grew → (length old < length new) × (length new ≤ most)
grew_longer most seen old new (grown not_all keeps within) = (keeps_longer keeps not_all, within)

-- where there are more, there are more words, and no more than there may be
pub adds_longer : {group : Group} {most : ℕ} {u v : List ℕ} {old new : Words} → Adds group most u v old new Grew
    → (length old < length new) × (length new ≤ most)
adds_longer {most = most} {old = old} {new = new} adds = grew_longer most adds.seen old new adds.grows

full_length : (most : ℕ) (seen old new : Words) (word : List ℕ) (place : ℕ) → Grows most seen old new (Full word place) → length new ≡ most
full_length most seen old new word _ (no_room before _ is keeps count fresh) = count

-- ---- the equalities of rules

pub pairs_of_rules : (rules : List Pair) → map pair_of (rule_equalities rules) ≡ rules
pairs_of_rules [] = refl
pairs_of_rules (rule ∷ rules) = ap (λ (l : List Pair). rule ∷ l) (pairs_of_rules rules)

pub pairs_of_all : (rules : List Pair) (rounds : List Equality) → map pair_of (rule_equalities rules ++ rounds) ≡ rules ++ map pair_of rounds
pairs_of_all rules rounds =
    map-append pair_of (rule_equalities rules) rounds ∙ ap (λ (l : List Pair). l ++ map pair_of rounds) (pairs_of_rules rules)

-- what a list of rules is answered
pub full_or_grew : {group : Group} {most : ℕ} {pairs : List Pair} {old new : Words} (answer : Grow)
    → AddsPairs group most pairs old new answer → (answer ≡ Grew) ⊎ IsFull answer
full_or_grew _ (each adds) = inl refl
full_or_grew _ (stopped before pair after between word place is front adds) = inr tt

pub rules_grew : (tried : Tried) (words : Words) (answer : Grow) → KeepsRules tried words answer → ¬ IsFull answer → KeepsRounds tried [] words
rules_grew tried words answer keeps room = elim (full_or_grew answer keeps) [
  | inl grew ↦
      let P : Grow → Type 0 = λ a. KeepsRules tried words a in
      rules_alone (subst P grew keeps)
  | inr full ↦ absurd (room full)
]

pub rules_full : (tried : Tried) (words : Words) (answer : Grow) → KeepsRules tried words answer → IsFull answer → NeedsMore tried [] words
rules_full tried words Grew keeps full = absurd full
rules_full tried words Same keeps full = absurd full
rules_full tried words (Full needed place) keeps full = of_rule keeps

-- ---- rounds

module _ (tried : Tried) where
  abbrev group : Group
  group = group_of tried.presentation tried.rules

  abbrev pairs_with : List Equality → List Pair
  pairs_with rounds = tried.rules ++ map pair_of rounds

  abbrev AreAdded : List Pair → Words → Type 0
  AreAdded pairs words = AddsEach group tried.most pairs ([] ∷ []) words

  with_one : (rounds : List Equality) (equality : Equality) → pairs_with rounds ++ pair_of equality ∷ [] ≡ pairs_with (rounds ++ equality ∷ [])
  with_one rounds equality =
      append_assoc tried.rules (map pair_of rounds) (pair_of equality ∷ [])
      ∙ ap (λ (l : List Pair). tried.rules ++ l) (sym (map-append pair_of rounds (equality ∷ [])))

  all_added : {pairs : List Pair} {words : Words} → AddsPairs group tried.most pairs ([] ∷ []) words Grew → AreAdded pairs words
  all_added (each adds) = adds

  -- the differences of the rules and of the rounds are those of a list of pairs
  pub rounds_added : {rounds : List Equality} {words : Words} → KeepsRounds tried rounds words → AreAdded (pairs_with rounds) words
  rounds_added (rules_alone {words = words} keeps) =
      let P : List Pair → Type 0 = λ pairs. AreAdded pairs words in
      subst P (sym (append-nil tried.rules)) (all_added keeps)
  rounds_added (one_more {equalities = equalities} {equality = equality} {words = words} {new = new} keeps is adds) =
      let P : List Pair → Type 0 = λ pairs. AreAdded pairs new in
      subst P (with_one equalities equality) (each_more (pair_of equality) Grew (rounds_added keeps) adds (λ full. full))

  pub kept_pairs : {rounds : List Equality} {words : Words} → KeepsRounds tried rounds words
      → AddsPairs group tried.most (pairs_with rounds) ([] ∷ []) words Grew
  kept_pairs keeps = each (rounds_added keeps)

  pub needed_pairs : {rounds : List Equality} {words : Words} → NeedsMore tried rounds words
      → (needed : List ℕ) × (place : ℕ) × AddsPairs group tried.most (pairs_with rounds) ([] ∷ []) words (Full needed place)
  needed_pairs (of_rule {words = words} {needed = needed} {place = place} keeps) =
      let P : List Pair → Type 0 = λ pairs. AddsPairs group tried.most pairs ([] ∷ []) words (Full needed place) in
      (needed, place, subst P (sym (append-nil tried.rules)) keeps)
  needed_pairs (of_round {equalities = equalities} {equality = equality} {words = words} {needed = needed} {place = place} keeps is adds) = (
    needed,
    place,
    stopped (pairs_with equalities) (pair_of equality) [] words needed place (sym (with_one equalities equality)) (rounds_added keeps) adds,
  )

  rules_are_full : {words : Words} {needed : List ℕ} {place : ℕ} → KeepsRules tried words (Full needed place) → length words ≡ tried.most
  rules_are_full {words = words} (stopped before pair after between word place is front adds) =
      full_length tried.most adds.seen between words word place adds.grows

  -- where more is needed, as many are kept as may be
  pub needs_are_full : {rounds : List Equality} {words : Words} → NeedsMore tried rounds words → length words ≡ tried.most
  needs_are_full (of_rule keeps) = rules_are_full keeps
  needs_are_full (of_round {words = words} {new = new} {needed = needed} {place = place} keeps is adds) =
      full_length tried.most adds.seen words new needed place adds.grows

  module _ (over : AreRulesOver tried.presentation.n tried.rules) where
    of_round_over : (words : Words) (equality : Equality) → IsEqualityOfRound tried words equality → IsEqualityOver tried.presentation.n equality
    of_round_over words equality is = equality_is_over tried.presentation tried.rules words tried.states equality over is.refutes

    -- the equalities of rounds are over the generators
    pub rounds_over : {rounds : List Equality} {words : Words} → KeepsRounds tried rounds words → AreEqualitiesOver tried.presentation.n rounds
    rounds_over (rules_alone keeps) = All-nil (IsEqualityOver tried.presentation.n)
    rounds_over (one_more {equalities = equalities} {equality = equality} {words = words} keeps is adds) =
        All-push (IsEqualityOver tried.presentation.n) equalities equality (rounds_over keeps) (of_round_over words equality is)

    pub needs_over : {rounds : List Equality} {words : Words} → NeedsMore tried rounds words → AreEqualitiesOver tried.presentation.n rounds
    needs_over (of_rule keeps) = All-nil (IsEqualityOver tried.presentation.n)
    needs_over (of_round {equalities = equalities} {equality = equality} {words = words} keeps is adds) =
        All-push (IsEqualityOver tried.presentation.n) equalities equality (rounds_over keeps) (of_round_over words equality is)

-- ---- listings

is_none : {X : Type 0} (o : Option X) → ¬ (o ≢ None) → o ≡ None
is_none None not_some = refl
is_none (Some x) not_some = absurd (not_some (λ e. cc e))

-- the listing of differences that are all kept
pub is_kept : (tried : Tried) (words : Words) (rounds : List Equality) (listing : Listing) → KeepsRounds tried rounds words
    → listing.equalities.items ≡ rule_equalities tried.rules ++ rounds → Lists (group_of tried.presentation tried.rules) words listing
    → ((listing.needed ≢ None) ↔ IsFull Grew) → IsKept tried words listing
is_kept tried words rounds listing keeps equalities lists needed =
    record { rounds = rounds; keeps = keeps; equalities = equalities; lists = lists; complete = is_none listing.needed needed.0 }

-- and of those of which one has no room
pub is_short : (tried : Tried) (words : Words) (rounds : List Equality) (listing : Listing) (needed : List ℕ) (place : ℕ) → NeedsMore tried rounds words
    → listing.equalities.items ≡ rule_equalities tried.rules ++ rounds → Lists (group_of tried.presentation tried.rules) words listing
    → ((listing.needed ≢ None) ↔ IsFull (Full needed place)) → IsShort tried listing
is_short tried words rounds listing needed place needs equalities lists full =
    record {
      rounds = rounds;
      words = words;
      needs = needs;
      equalities = equalities;
      lists = lists;
      full = needs_are_full tried needs;
      needed = full.1 tt;
    }
