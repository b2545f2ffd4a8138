-- Sets that have exactly the numbers of a kind, and machines that go to such sets.
use Rattle.std.proofs.Common.{◌≡◌, ◌≢◌, ◌↔◌, ℕ, ◌≤◌, List, Option, Some, None, IsSome, is_some, refl, sym, ap, subst}
use Rattle.std.specs.List.{Contains}
use Rattle.kb_fsa.specs.declared.alphabet.Alphabet.{Alphabet}
use Rattle.kb_fsa.specs.Language.{generators, symbols, IsTextOf, IsAutomaton}
use Rattle.kb_fsa.specs.Table.{Table, HasSymbols, state_after}
use Rattle.kb_fsa.specs.Counted.{MoreSetsThan}
use Rattle.kb_explore.specs.Machine.{Machine, leads, HasMoreStates}
use Rattle.kb_explore.specs.Exploration.{IsExploration}
use Rattle.kb_explore.proofs.CountingLemmas.{MoreThan-kept}
use Rattle.kb_explore.proofs.ExplorationLemmas.{leads_nowhere, same_states}
use Rattle.kb_fsadet.specs.SubsetConstruction.{IsAscending}
use Rattle.kb_fsadet.proofs.Sets.{same_from_members}

-- ---- sets that have exactly the numbers of a kind

pub record IsSetOf (P : ℕ → Type 0) (set : List ℕ) : Type 0 where
  pub ascends : IsAscending set
  pub some : (x : ℕ) × P x
  pub members : (x : ℕ) → Contains set x ↔ P x

-- there is none where no number is of the kind
unfoldable pub HasExactly : (ℕ → Type 0) → Option (List ℕ) → Type 0
HasExactly P None = (x : ℕ) → ¬ P x
HasExactly P (Some set) = IsSetOf P set

pub HasExactly-like : (P Q : ℕ → Type 0) (o : Option (List ℕ)) → ((x : ℕ) → P x ↔ Q x) → HasExactly P o → HasExactly Q o
unfolding HasExactly
HasExactly-like P Q None like none = λ x is. none x ((like x).1 is)
HasExactly-like P Q (Some set) like is = record {
  ascends = is.ascends;
  some = let some = is.some in (some.0, (like some.0).0 some.1);
  members = λ x. (λ at. (like x).0 ((is.members x).0 at), λ of. (is.members x).1 ((like x).1 of));
}

some_from_exactly : (P : ℕ → Type 0) (o : Option (List ℕ)) → HasExactly P o → IsSome o → (x : ℕ) × P x
unfolding HasExactly
some_from_exactly P None none some = cc
some_from_exactly P (Some set) is some = is.some

IsSome-from_exactly : (P : ℕ → Type 0) (o : Option (List ℕ)) → HasExactly P o → (x : ℕ) × P x → IsSome o
unfolding HasExactly
IsSome-from_exactly P None none some = absurd (none some.0 some.1)
IsSome-from_exactly P (Some set) is some = refl

same_from_exactly : (P Q : ℕ → Type 0) (o p : Option (List ℕ)) → HasExactly P o → HasExactly Q p
    → ((x : ℕ) → P x ↔ Q x) → o ≡ p
unfolding HasExactly
same_from_exactly P Q None None one two like = refl
same_from_exactly P Q None (Some set) one two like = let some = two.some in absurd (one some.0 ((like some.0).1 some.1))
same_from_exactly P Q (Some set) None one two like = let some = one.some in absurd (two some.0 ((like some.0).0 some.1))
same_from_exactly P Q (Some set) (Some other) one two like =
    ap (λ s. Some s) (same_from_members set other one.ascends two.ascends (λ x. (
      λ at. (two.members x).1 ((like x).0 ((one.members x).0 at)),
      λ at. (one.members x).1 ((like x).1 ((two.members x).0 at)),
    )))

like_from_exactly : (P Q : ℕ → Type 0) (o : Option (List ℕ)) → HasExactly P o → HasExactly Q o → (x : ℕ) → P x ↔ Q x
unfolding HasExactly
like_from_exactly P Q None one two x = (λ is. absurd (one x is), λ is. absurd (two x is))
like_from_exactly P Q (Some set) one two x =
    (λ is. (two.members x).0 ((one.members x).1 is), λ is. (one.members x).0 ((two.members x).1 is))

-- ---- a machine that goes by a text to the set of the text's members

module _ (machine : Machine (List ℕ)) (Member : List ℕ → ℕ → Type 0)
    (exactly : (text : List ℕ) → HasExactly (Member text) (leads machine text)) where
  -- it goes to some set where the text has a member
  pub leads_somewhere : (text : List ℕ) → IsSome (leads machine text) ↔ ((x : ℕ) × Member text x)
  leads_somewhere text = (
    some_from_exactly (Member text) (leads machine text) (exactly text),
    IsSome-from_exactly (Member text) (leads machine text) (exactly text),
  )

  -- and to one set exactly where texts have the same members
  leads_alike : (text other : List ℕ)
      → (leads machine text ≡ leads machine other) ↔ ((x : ℕ) → Member text x ↔ Member other x)
  leads_alike text other = (
    λ same.
        let P : Option (List ℕ) → Type 0 = λ o. HasExactly (Member other) o in
        like_from_exactly (Member text) (Member other) (leads machine text) (exactly text)
        (subst P (sym same) (exactly other)),
    λ like. same_from_exactly (Member text) (Member other) (leads machine text) (leads machine other)
        (exactly text) (exactly other) like,
  )

  -- the machine goes to as many sets as texts have
  pub more_sets : (m : ℕ) → HasMoreStates machine m → MoreSetsThan Member m
  more_sets m more =
      MoreThan-kept more (λ text some. (leads_somewhere text).0 some)
      (λ text other one two same. (leads_alike text other).1 same)

  pub more_states : (m : ℕ) → MoreSetsThan Member m → HasMoreStates machine m
  more_states m more =
      MoreThan-kept more (λ text some. (leads_somewhere text).1 some)
      (λ text other one two same. (leads_alike text other).0 same)

-- ---- the table of the explored machine

module _ (machine : Machine (List ℕ)) (Member : List ℕ → ℕ → Type 0)
    (exactly : (text : List ℕ) → HasExactly (Member text) (leads machine text))
    (table : Table) (states : List (List ℕ)) (origins : List (ℕ × ℕ))
    (explored : IsExploration machine table states origins) where
  -- a text leads to a state exactly where it has a member
  pub some_state : (text : List ℕ) → (state_after table text ≢ 0) ↔ ((x : ℕ) × Member text x)
  some_state text = (
    λ some. by (leads machine text) refl some,
    λ among none.
        let nowhere = (leads_nowhere explored text).0 none in
        let somewhere = (leads_somewhere machine Member exactly text).1 among in
        cc,
  )
    where
      by : (o : Option (List ℕ)) → leads machine text ≡ o → state_after table text ≢ 0 → (x : ℕ) × Member text x
      by None e some = absurd (some ((leads_nowhere explored text).1 e))
      by (Some set) e some = (leads_somewhere machine Member exactly text).0 (ap is_some e)

  -- texts lead to one state exactly where they have the same members
  pub same_sets : (text other : List ℕ)
      → (state_after table text ≡ state_after table other) ↔ ((x : ℕ) → Member text x ↔ Member other x)
  same_sets text other =
      let states_alike = same_states explored text other in
      let sets_alike = leads_alike machine Member exactly text other in
      (λ same. sets_alike.0 (states_alike.0 same), λ like. states_alike.1 (sets_alike.1 like))

  -- over an alphabet that has each text with a member it is an automaton
  pub explored_automaton : (alphabet : Alphabet) → generators alphabet ≤ 65534 → HasSymbols (symbols alphabet) table
      → ((text : List ℕ) (x : ℕ) → Member text x → IsTextOf alphabet text)
      → IsAutomaton (record { alphabet = alphabet; table = table })
  explored_automaton alphabet generators' symbols' texts = record {
    generators = generators';
    table = explored.is_table;
    symbols = symbols';
    texts = λ text some. let among = (some_state text).0 some in texts text among.0 among.1;
  }
