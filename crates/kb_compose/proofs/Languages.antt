-- The pairs of words that a composite accepts.
use Rattle.std.proofs.Common.{◌≡◌, ◌≢◌, ◌↔◌, ℕ, ◌+◌, ◌<◌, ◌≤◌, max, IsTrue, List, [], ◌∷◌, ◌++◌, length, take, drop, Contains, Option, Some, None, refl, sym, ap, ◌∙◌, subst, inl, inr, arith, append-nil}
use Rattle.std.specs.List.{flat_map}
use Rattle.std.proofs.lemmas.Bool.{false≢true, cases_lt}
use Rattle.std.proofs.lemmas.List.{take-append-drop, length-take}
use Rattle.std.proofs.lemmas.List.Elements.{All-append, All-take, All-drop, All-head}
use Rattle.std.proofs.lemmas.Option.{slice_get_within, get_or_from_slice_get}
use Rattle.kb_word.specs.Relations.{IsOver}
use Rattle.kb_fsa.specs.declared.alphabet.Alphabet.TheVariants.{Pair}
use Rattle.kb_fsa.specs.Table.{Table, HasSymbols, AcceptsFrom, state_after, after, step, is_accepting}
use Rattle.kb_fsa.specs.PairSymbols.{pair_symbol}
use Rattle.kb_fsa.specs.Padding.{padded}
use Rattle.kb_fsa.specs.Language.{Automaton, IsAutomaton, AcceptsPair, IsTextOf, generators, symbols}
use Rattle.kb_fsa.proofs.Lookups.{after-append, after_none}
use Rattle.kb_fsa.proofs.Paddings.{length-padded, padded-injective}
use Rattle.kb_fsa.proofs.PaddedRuns.{text_of_run}
use Rattle.kb_explore.specs.Machine.{Machine, MachineAccepts, leads}
use Rattle.kb_explore.specs.Exploration.{IsExploration}
use Rattle.kb_explore.proofs.ExplorationLemmas.{accepts_same, leads_within, leads_nowhere}
use Rattle.kb_fsadet.specs.SubsetConstruction.{set_of, is_member}
use Rattle.kb_fsadet.proofs.Determinised.{list_any-found, list_any-from}
use Rattle.kb_fsadet.proofs.Sets.{Contains-set_of}
use Rattle.kb_compose.specs.declared.place.Place.{Place}
use Rattle.kb_compose.specs.Composition.{HasMiddle, IsComposite, IsPairAfter}
use Rattle.kb_compose.specs.StatePairs.{number_of, state_pairs}
use Rattle.kb_compose.specs.Tails.{EndsTogether, AreEnding}
use Rattle.kb_compose.proofs.Stepping.{IsPairTable, IsStayOrStep, steps}
use Rattle.kb_compose.proofs.Joins.{flat_map_contains, middle_long}
use Rattle.kb_compose.proofs.PlacesAfter.{IsMember, HasPlace, place_after, states_of_member}
use Rattle.kb_compose.proofs.CountedSets.{set_of_text, place_of_pair}

-- a word that goes on behind the other
pub padded_on_second : (n : ℕ) (u w rest : List ℕ) → length u ≤ length w → padded n u (w ++ rest) ≡ padded n u w ++ padded n [] rest
padded_on_second n [] [] rest long = refl
padded_on_second n (x ∷ u) [] rest long = absurd (omega arith)
padded_on_second n [] (y ∷ w) rest long = ap (λ text. pair_symbol n (n + 1) y ∷ text) (padded_on_second n [] w rest (omega arith))
padded_on_second n (x ∷ u) (y ∷ w) rest long = ap (λ text. pair_symbol n x y ∷ text) (padded_on_second n u w rest (omega arith))

pub padded_on_first : (n : ℕ) (w v rest : List ℕ) → length v ≤ length w → padded n (w ++ rest) v ≡ padded n w v ++ padded n rest []
padded_on_first n [] [] rest long = refl
padded_on_first n [] (y ∷ v) rest long = absurd (omega arith)
padded_on_first n (x ∷ w) [] rest long = ap (λ text. pair_symbol n x (n + 1) ∷ text) (padded_on_first n w [] rest (omega arith))
padded_on_first n (x ∷ w) (y ∷ v) rest long = ap (λ text. pair_symbol n x y ∷ text) (padded_on_first n w v rest (omega arith))

-- what leads to acceptance is a state
some_accepts : (table : Table) (state : ℕ) (text : List ℕ) → AcceptsFrom table state text → state ≢ 0
some_accepts table state text accepts none =
    false≢true (sym (ap (is_accepting table) (ap (λ s. after table s text) none ∙ after_none table text)) ∙ accepts)

-- a step to acceptance
step_accepts : (n : ℕ) (table : Table) (state symbol : ℕ) (text : List ℕ) → AcceptsFrom table (step table state symbol) text
    → IsStayOrStep n table state symbol (step table state symbol)
step_accepts n table state symbol text accepts =
    let some = some_accepts table (step table state symbol) text accepts in steps refl (omega arith)

module _ (first second : Automaton) (pairs : first.alphabet ≡ Pair (generators first.alphabet))
    (one : IsPairTable (generators first.alphabet) first.table) (two : IsPairTable (generators first.alphabet) second.table)
    (alike : generators second.alphabet ≡ generators first.alphabet) where
  abbrev n : ℕ
  n = generators first.alphabet

  -- the second automaton's language in the generators of the first
  abbrev SecondAccepts : List ℕ → List ℕ → Type 0
  SecondAccepts w v = AcceptsFrom second.table second.table.initial (padded n w v)

  to_second : (w v : List ℕ) → SecondAccepts w v → AcceptsPair second w v
  to_second w v accepts =
      let P : ℕ → Type 0 = λ m. AcceptsFrom second.table second.table.initial (padded m w v) in subst P (sym alike) accepts

  from_second : (w v : List ℕ) → AcceptsPair second w v → SecondAccepts w v
  from_second w v accepts =
      let P : ℕ → Type 0 = λ m. AcceptsFrom second.table second.table.initial (padded m w v) in subst P alike accepts

  -- ---- from a pair of states that ends to a middle word

  -- where there is a rest, the middle word is as long as the text
  rest_long : (text : List ℕ) (p q : ℕ) → (beside : IsPairAfter first second text (p, q)) → (rest : List ℕ) → IsOver n rest
      → AcceptsFrom first.table p (padded n [] rest) → AcceptsFrom second.table q (padded n rest []) → 0 < length rest
      → length beside.middle ≡ length text
  rest_long text p q beside [] over in_first in_second some = absurd (omega arith)
  rest_long text p q beside (c ∷ rest) over in_first in_second some =
      let letter = All-head (λ x. (0 < x) × (x ≤ n)) c rest over in
      let padding : (0 < n + 1) × (n + 1 ≤ n + 1) = (omega arith, omega arith) in
      middle_long first second one two text p q (n + 1) (n + 1) c (step first.table p (pair_symbol n (n + 1) c))
      (step second.table q (pair_symbol n c (n + 1))) beside padding padding letter
      (step_accepts n first.table p (pair_symbol n (n + 1) c) (padded n [] rest) in_first)
      (step_accepts n second.table q (pair_symbol n c (n + 1)) (padded n rest []) in_second)

  middle_of : (u v : List ℕ) → IsOver n u → IsOver n v → (p q : ℕ) → IsPairAfter first second (padded n u v) (p, q)
      → (rest : List ℕ) → IsOver n rest → AcceptsFrom first.table p (padded n [] rest) → AcceptsFrom second.table q (padded n rest [])
      → HasMiddle first second u v
  middle_of u v over_u over_v p q beside rest over in_first in_second =
      let text = padded n u v in
      let is = beside.is_text in
      let w = beside.middle in
      let words = padded-injective n beside.u beside.v u v is.first_over is.second_over over_u over_v (sym is.is_text) in
      let leads_first : state_after first.table (padded n u w) ≡ p =
      ap (λ (x : List ℕ). state_after first.table (padded n x w)) (sym words.0) ∙ beside.in_first.leads in
      let leads_second : state_after second.table (padded n w v) ≡ q =
      ap (λ (y : List ℕ). state_after second.table (padded n w y)) (sym words.1) ∙ beside.in_second.leads in
      let P : ℕ → Type 0 = λ s. AcceptsFrom first.table s (padded n [] rest) in
      let Q : ℕ → Type 0 = λ s. AcceptsFrom second.table s (padded n rest []) in
      let both = whole u v w rest (length-padded n u v) (λ some. rest_long text p q beside rest over in_first in_second some)
      (subst P (sym leads_first) in_first) (subst Q (sym leads_second) in_second) in
      record {
        middle = w ++ rest;
        over = All-append (λ x. (0 < x) × (x ≤ n)) w rest beside.over over;
        in_first = both.0;
        in_second = to_second (w ++ rest) v both.1;
      }
    where
      whole : (x y w' more : List ℕ) → length (padded n x y) ≡ max (length x) (length y) → (0 < length more → length w' ≡ length (padded n x y))
          → AcceptsFrom first.table (state_after first.table (padded n x w')) (padded n [] more)
          → AcceptsFrom second.table (state_after second.table (padded n w' y)) (padded n more [])
          → AcceptsPair first x (w' ++ more) × SecondAccepts (w' ++ more) y
      whole x y w' [] wide long one_accepts two_accepts =
          let P : List ℕ → Type 0 = λ m. AcceptsPair first x m × SecondAccepts m y in
          subst P (sym (append-nil w')) (one_accepts, two_accepts)
      whole x y w' (c ∷ more) wide long one_accepts two_accepts =
          let same = long (omega arith) in
          let rest' = c ∷ more in
          let left : after first.table first.table.initial (padded n x (w' ++ rest'))
          ≡ after first.table (state_after first.table (padded n x w')) (padded n [] rest') =
          ap (state_after first.table) (padded_on_second n x w' rest' (omega arith))
          ∙ after-append first.table first.table.initial (padded n x w') (padded n [] rest') in
          let right : after second.table second.table.initial (padded n (w' ++ rest') y)
          ≡ after second.table (state_after second.table (padded n w' y)) (padded n rest' []) =
          ap (state_after second.table) (padded_on_first n w' y rest' (omega arith))
          ∙ after-append second.table second.table.initial (padded n w' y) (padded n rest' []) in
          let P : ℕ → Type 0 = λ s. IsTrue (is_accepting first.table s) in
          let Q : ℕ → Type 0 = λ s. IsTrue (is_accepting second.table s) in
          (subst P (sym left) one_accepts, subst Q (sym right) two_accepts)

  -- ---- from a middle word to a pair of states that ends

  -- the pair of states that the words lead to, with the rest of the middle word
  pub record IsSplitMiddle (u v : List ℕ) : Type 0 where
    pub p : ℕ
    pub q : ℕ
    pub rest : List ℕ
    pub rest_over : IsOver n rest
    pub after : IsPairAfter first second (padded n u v) (p, q)
    pub in_first : AcceptsFrom first.table p (padded n [] rest)
    pub in_second : AcceptsFrom second.table q (padded n rest [])

  split_middle : (u v middle : List ℕ) → IsOver n u → IsOver n v → IsOver n middle → AcceptsPair first u middle → SecondAccepts middle v
      → IsSplitMiddle u v
  split_middle u v middle over_u over_v over in_first in_second =
      elim (cases_lt (length (padded n u v)) (length middle)) [ inl longer ↦ cut longer | inr short ↦ all short ]
    where
      -- the whole middle word is no longer than the text
      all : length middle ≤ length (padded n u v) → IsSplitMiddle u v
      all short = record {
        p = state_after first.table (padded n u middle);
        q = state_after second.table (padded n middle v);
        rest = [];
        rest_over = λ k d h. absurd (omega arith);
        after = record {
          u = u;
          middle = middle;
          v = v;
          is_text = record { first_over = over_u; second_over = over_v; is_text = refl };
          over = over;
          no_longer = short;
          in_first = record { leads = refl; some = some_accepts first.table (state_after first.table (padded n u middle)) [] in_first; stays = λ _. in_first };
          in_second = record { leads = refl; some = some_accepts second.table (state_after second.table (padded n middle v)) [] in_second; stays = λ _. in_second };
        };
        in_first = in_first;
        in_second = in_second;
      }

      -- or its first letters are as many as the text has
      cut : length (padded n u v) < length middle → IsSplitMiddle u v
      cut longer =
          let k = length (padded n u v) in
          let w = take k middle in
          let rest = drop k middle in
          let wide = length-padded n u v in
          let long : length w ≡ k = omega (arith, length-take k middle) in
          let both = take-append-drop k middle in
          let p = state_after first.table (padded n u w) in
          let q = state_after second.table (padded n w v) in
          let left : after first.table first.table.initial (padded n u middle) ≡ after first.table p (padded n [] rest) =
          ap (λ (m : List ℕ). state_after first.table (padded n u m)) (sym both)
          ∙ ap (state_after first.table) (padded_on_second n u w rest (omega arith))
          ∙ after-append first.table first.table.initial (padded n u w) (padded n [] rest) in
          let right : after second.table second.table.initial (padded n middle v) ≡ after second.table q (padded n rest []) =
          ap (λ (m : List ℕ). state_after second.table (padded n m v)) (sym both)
          ∙ ap (state_after second.table) (padded_on_first n w v rest (omega arith))
          ∙ after-append second.table second.table.initial (padded n w v) (padded n rest []) in
          let P : ℕ → Type 0 = λ s. IsTrue (is_accepting first.table s) in
          let Q : ℕ → Type 0 = λ s. IsTrue (is_accepting second.table s) in
          let accepts_first : AcceptsFrom first.table p (padded n [] rest) = subst P left in_first in
          let accepts_second : AcceptsFrom second.table q (padded n rest []) = subst Q right in_second in
          record {
            p = p;
            q = q;
            rest = rest;
            rest_over = All-drop (λ x. (0 < x) × (x ≤ n)) k middle over;
            after = record {
              u = u;
              middle = w;
              v = v;
              is_text = record { first_over = over_u; second_over = over_v; is_text = refl };
              over = All-take (λ x. (0 < x) × (x ≤ n)) k middle over;
              no_longer = omega arith;
              in_first = record { leads = refl; some = some_accepts first.table p (padded n [] rest) accepts_first; stays = λ less. absurd (omega arith) };
              in_second = record { leads = refl; some = some_accepts second.table q (padded n rest []) accepts_second; stays = λ less. absurd (omega arith) };
            };
            in_first = accepts_first;
            in_second = accepts_second;
          }

  -- ---- the composite

  module _ (ending : List ℕ) (table : Table) (states : List Place) (origins : List (ℕ × ℕ))
      (explored : IsExploration (state_pairs first second ending) table states origins)
      (ends : AreEnding n first.table second.table (set_of (flat_map (λ place. place.pairs) states)) ending) where
    abbrev machine : Machine Place
    machine = state_pairs first second ending

    -- the pairs of the set of a text are among all
    known : (text : List ℕ) (place : Place) → leads machine text ≡ Some place → (pair : ℕ) → Contains place.pairs pair
        → IsTrue (is_member ending pair) ↔ EndsTogether n first.table second.table pair
    known text place is pair at =
        let found = leads_within explored text place is in
        let listed : Contains states place =
        (found.0, slice_get_within states found.0 place found.1.0, get_or_from_slice_get states found.0 place place found.1.0) in
        ends.ends pair ((Contains-set_of (flat_map (λ (p : Place). p.pairs) states) pair).1
        (flat_map_contains (λ (p : Place). p.pairs) states place pair listed at))

    machine_accepts : (u v : List ℕ) → IsOver n u → IsOver n v → MachineAccepts machine (padded n u v) ↔ HasMiddle first second u v
    machine_accepts u v over_u over_v =
        let text = padded n u v in (
          λ accepts.
              let place = accepts.state in
              let found = list_any-found (is_member ending) place.pairs accepts.accepts in
              let pair = found.0 in
              let set = set_of_text first second pairs one two ending text place accepts.leads_there in
              let member = (set.members pair).0 found.1.0 in
              let end = (known text place accepts.leads_there pair found.1.0).0 found.1.1 in
              let states_are = states_of_member first second pairs one two text pair member.p member.q member.pair_is member.after in
              let P : ℕ → Type 0 = λ s. AcceptsFrom first.table s (padded n [] end.rest) in
              let Q : ℕ → Type 0 = λ s. AcceptsFrom second.table s (padded n end.rest []) in
              middle_of u v over_u over_v member.p member.q member.after end.rest end.over
              (subst P states_are.0 end.in_first) (subst Q states_are.1 end.in_second),
          λ middle.
              let parts = split_middle u v middle.middle over_u over_v middle.over middle.in_first (from_second middle.middle v middle.in_second) in
              let pair = number_of parts.p parts.q in
              let member : IsMember first second pairs one two text pair =
              record { p = parts.p; q = parts.q; pair_is = refl; after = parts.after } in
              let place = place_of_pair first second pairs one two ending text pair member in
              let set = set_of_text first second pairs one two ending text place.0 place.1 in
              let at = (set.members pair).1 member in
              let states_are = states_of_member first second pairs one two text pair parts.p parts.q refl parts.after in
              let P : ℕ → Type 0 = λ s. AcceptsFrom first.table s (padded n [] parts.rest) in
              let Q : ℕ → Type 0 = λ s. AcceptsFrom second.table s (padded n parts.rest []) in
              let end : EndsTogether n first.table second.table pair = record {
                rest = parts.rest;
                over = parts.rest_over;
                in_first = subst P (sym states_are.0) parts.in_first;
                in_second = subst Q (sym states_are.1) parts.in_second;
              } in
              record {
                state = place.0;
                leads_there = place.1;
                accepts = list_any-from (is_member ending) place.0.pairs pair at ((known text place.0 place.1 pair at).1 end);
              },
        )

    pub is_composite : IsComposite first second (record { alphabet = first.alphabet; table = table })
    is_composite u v over_u over_v =
        let text = padded n u v in
        let same = accepts_same explored text in
        let means = machine_accepts u v over_u over_v in
        (λ accepts. means.0 (same.0 accepts), λ middle. same.1 (means.1 middle))

    pub is_automaton : generators first.alphabet ≤ 65534 → HasSymbols (symbols first.alphabet) table
        → IsAutomaton (record { alphabet = first.alphabet; table = table })
    unfolding HasPlace
    is_automaton low within = record {
      generators = low;
      table = explored.is_table;
      symbols = within;
      texts = λ text some. by text some (leads machine text) refl (place_after first second pairs one two ending text);
    }
      where
        by : (text : List ℕ) → state_after table text ≢ 0 → (o : Option Place) → leads machine text ≡ o → HasPlace first second pairs one two text o
            → IsTextOf first.alphabet text
        by text some None is none = absurd (some ((leads_nowhere explored text).1 is))
        by text some (Some place) is has = text_of_run first.alphabet text place.ended has.ended
