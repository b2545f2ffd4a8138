-- The pairs of words that the machine accepts, and how many places texts lead to.
use Rattle.std.proofs.Common.{◌≡◌, ◌≢◌, ◌↔◌, ℕ, zero, suc, ◌+◌, ◌<◌, ◌≤◌, Bool, true, if◌then◌else◌, nat_eq, IsSome, IsTrue, is_some, List, [], ◌∷◌, ◌++◌, length, slice_get, Option, Some, None, refl, sym, ap, ◌∙◌, subst, inl, inr, arith}
use Rattle.std.proofs.lemmas.Bool.{cases_Bool, cases_lt, eq-eqb, eqb-false, eqb-true, false≢true, ne_eqb}
use Rattle.std.proofs.lemmas.Option.{none-some, same_Some}
use Rattle.kb_word.specs.Names.{AreApart}
use Rattle.kb_word.specs.Relations.{IsOver, inverse_word}
use Rattle.kb_word.specs.Rewriting.{NormalForm}
use Rattle.kb_fsa.specs.Table.{Table, AcceptsFrom, HasSymbols, after, is_accepting, state_after}
use Rattle.kb_fsa.specs.Padding.{letters_of, padded}
use Rattle.kb_fsa.specs.PairSymbols.{pair_symbols}
use Rattle.kb_fsa.specs.Language.{Automaton, IsAutomaton, IsTextOf}
use Rattle.kb_fsa.specs.declared.alphabet.Alphabet.{Alphabet}
use Rattle.kb_fsa.specs.declared.alphabet.Alphabet.TheVariants.{Pair, Plain}
use Rattle.kb_fsa.proofs.Lookups.{accepting_positive}
use Rattle.kb_fsa.proofs.Paddings.{IsPadded-from_pair, padded-injective}
use Rattle.kb_explore.specs.Machine.{HasMoreStates, Machine, lead, leads}
use Rattle.kb_explore.specs.Exploration.{IsExploration}
use Rattle.kb_explore.proofs.CountingLemmas.{MoreThan-kept}
use Rattle.kb_explore.proofs.ExplorationLemmas.{leads_nowhere}
use Rattle.kb_diff.specs.Groups.{Group}
use Rattle.kb_diff.specs.Steps.{AreSteps, HasNumber, Leads, LeadsBy}
use Rattle.kb_diffwa.specs.declared.place.Place.{Place}
use Rattle.kb_diffwa.specs.Tracks.{IsTrackAfter, at_state, has_ended, may_end}
use Rattle.kb_diffwa.specs.Pairs.{pairs, start_at}
use Rattle.kb_diffwa.specs.Multipliers.{CountedPlaces, IsMultiplied, IsPlaceAfter}
use Rattle.kb_diffwa.proofs.Ends.{EndsAt}
use Rattle.kb_diffwa.proofs.PairRuns.{PairRun, lead_of_run, run_of_lead}
use Rattle.kb_diff.proofs.StepRuns.{StepRun, kept_of_number, leads_of_run, leads_step, one_number, one_word, run_of_leads, step_leads}
use Rattle.kb_diffwa.proofs.TrackRuns.{accepted, after_run, begins, run_after}

-- ---- letters of pairs

padding_letters : (n : ℕ) → letters_of n (n + 1) ≡ []
padding_letters n = ap (λ (b : Bool). if b then [] else (n + 1) ∷ []) (eq-eqb (n + 1) (n + 1) refl)

own_letters : (n x : ℕ) → x ≤ n → letters_of n x ≡ x ∷ []
own_letters n x letter = ap (λ (b : Bool). if b then [] else x ∷ []) (ne_eqb x (n + 1) (λ same. omega (arith, same)))

module _ (group : Group) where
  -- from the empty word the padding and a generator lead to the generator's normal form
  normal_of_leads : (x : ℕ) (e : List ℕ) → x ≤ group.n → LeadsBy group [] (group.n + 1) x e → NormalForm group.rules (x ∷ []) e
  normal_of_leads x e letter leads =
      let inverse : [] ≡ leads.inverse =
      same_Some _ _ (sym (ap (inverse_word group.inverses) (padding_letters group.n)) ∙ leads.inverts) in
      let P : List ℕ → Type 0 = λ w. NormalForm group.rules (w ++ [] ++ letters_of group.n x) e in
      let Q : List ℕ → Type 0 = λ w. NormalForm group.rules w e in
      subst Q (own_letters group.n x letter) (subst P (sym inverse) leads.normal)

  leads_of_normal : (x : ℕ) (e : List ℕ) → x ≤ group.n → NormalForm group.rules (x ∷ []) e → LeadsBy group [] (group.n + 1) x e
  leads_of_normal x e letter normal =
      let Q : List ℕ → Type 0 = λ w. NormalForm group.rules w e in record {
        inverse = [];
        inverts = ap (inverse_word group.inverses) (padding_letters group.n);
        normal = subst Q (sym (own_letters group.n x letter)) normal;
      }

module _ (group : Group) (words : List (List ℕ)) (table : Table) (step : ℕ → ℕ → ℕ → ℕ) (targets : List ℕ)
    (acceptor : IsAutomaton (record { alphabet = Plain group.n; table = table })) (are : AreSteps group words step)
    (apart : AreApart words) (empty : slice_get words 0 ≡ Some []) where
  abbrev n : ℕ
  n = group.n

  abbrev machine : Machine Place
  machine = pairs table n step targets

  first_number : HasNumber words 1 []
  first_number = record { index = 0; is = refl; at = empty }

  -- ---- where texts lead

  start_none : table.initial ≡ 0 → machine.start ≡ None
  start_none none = ap (λ (b : Bool). if b then None else start_at table.initial) (eq-eqb table.initial 0 none)

  start_some : table.initial ≢ 0 → machine.start ≡ Some (record { first = table.initial; second = table.initial; difference = 1 })
  start_some some = ap (λ (b : Bool). if b then None else start_at table.initial) (ne_eqb table.initial 0 some)

  lead_none : (text : List ℕ) → lead machine None text ≡ None
  lead_none [] = refl
  lead_none (symbol ∷ text) = refl

  place_of_run : (text : List ℕ) (place : Place) → table.initial ≢ 0
      → PairRun table n step (record { first = table.initial; second = table.initial; difference = 1 }) text place
      → IsPlaceAfter group words table text place
  place_of_run text place some run =
      let over = run.is_text.first_over in
      let also = run.is_text.second_over in
      let to = leads_of_run group words step are run.first run.second 1 place.difference [] over also first_number run.steps in
      record {
        first = run.first;
        second = run.second;
        is_text = run.is_text;
        first_track = after_run table n acceptor.table acceptor.symbols run.first run.second table.initial place.first some over run.one;
        second_track = after_run table n acceptor.table acceptor.symbols run.second run.first table.initial place.second some also run.two;
        difference = to.0;
        number = to.1.0;
        leads = to.1.1;
      }

  pub place_of_leads : (text : List ℕ) (place : Place) → leads machine text ≡ Some place → IsPlaceAfter group words table text place
  place_of_leads text place is =
      elim (cases_Bool (nat_eq table.initial 0)) [
        | inl none ↦
            absurd (none-some place (sym (lead_none text) ∙ sym (ap (λ o. lead machine o text) (start_none (eqb-true table.initial 0 none))) ∙ is))
        | inr some ↦
            let begun = eqb-false table.initial 0 some in
            place_of_run text place begun
            (run_of_lead table n step targets acceptor.table acceptor.symbols text
            (record { first = table.initial; second = table.initial; difference = 1 }) place
            (sym (ap (λ o. lead machine o text) (start_some begun)) ∙ is))
      ]

  pub leads_of_place : (text : List ℕ) (place : Place) → IsPlaceAfter group words table text place → leads machine text ≡ Some place
  leads_of_place text place at =
      let u = at.first in
      let v = at.second in
      let over = at.is_text.first_over in
      let also = at.is_text.second_over in
      let begun = begins table n acceptor.table acceptor.symbols u v table.initial place.first at.first_track in
      let run = run_of_leads group words step are u v 1 [] at.difference over also first_number at.leads in
      let same = one_number words run.0 place.difference at.difference apart run.1.0 at.number in
      let P : ℕ → Type 0 = λ d. StepRun step n 1 u v d in
      ap (leads machine) at.is_text.is_text ∙ ap (λ o. lead machine o (padded n u v)) (start_some begun)
      ∙ lead_of_run table n step targets acceptor.table acceptor.symbols u v table.initial table.initial 1 place.first place.second place.difference over also
      (run_after table n acceptor.table acceptor.symbols u v table.initial place.first begun over at.first_track)
      (run_after table n acceptor.table acceptor.symbols v u table.initial place.second begun also at.second_track)
      (subst P same run.1.1)

  -- ---- acceptance

  -- a word's track stands where it may end, where the word is accepted
  track_of_accepted : (u v : List ℕ) → AcceptsFrom table table.initial u → (q : ℕ) × (IsTrackAfter table table.initial u v q × (may_end table q ≡ true))
  track_of_accepted u v accepts =
      elim (cases_lt (length u) (length v)) [
        | inl shorter ↦ (0, (has_ended shorter accepts, refl))
        | inr within ↦
            let q = after table table.initial u in
            let positive = accepting_positive table q accepts in
            (q, (at_state within refl (λ none. omega (arith, none, positive)), ends q accepts))
      ]
    where
      ends : (q : ℕ) → IsTrue (is_accepting table q) → may_end table q ≡ true
      ends zero there = refl
      ends (suc place) there = there

  module _ (x : ℕ) (positive : 0 < x) (letter : x ≤ n) where
    pad : (0 < n + 1) × (n + 1 ≤ n + 1)
    pad = (omega arith, omega arith)

    wide : (0 < x) × (x ≤ n + 1)
    wide = (positive, omega arith)

    multiplied_of_ends : (u v : List ℕ) → IsOver n u → IsOver n v → EndsAt table machine (padded n u v) (step 1 (n + 1) x)
        → IsMultiplied group words (record { alphabet = Plain n; table = table }) x u v
    multiplied_of_ends u v over also ends =
        let place = ends.place in
        let at = place_of_leads (padded n u v) place ends.leads_there in
        let same = padded-injective n u v at.first at.second over also at.is_text.first_over at.is_text.second_over at.is_text.is_text in
        let number : step 1 (n + 1) x ≡ suc at.number.index = sym ends.difference ∙ at.number.is in
        let to = step_leads group words step are 1 (n + 1) x at.number.index [] first_number pad wide number in
        let H : ℕ → Type 0 = λ z. HasNumber words z at.difference in
        let end = one_word words (suc at.number.index) to.0 at.difference to.1.1 (subst H at.number.is at.number) in
        let E : List ℕ → Type 0 = λ e. LeadsBy group [] (n + 1) x e in
        let A : List ℕ → Type 0 = λ w. AcceptsFrom table table.initial w in
        let L : List ℕ → Type 0 = λ w. Leads group words [] w v at.difference in
        let M : List ℕ → Type 0 = λ w. Leads group words [] at.first w at.difference in
        record {
          first = subst A (sym same.0)
              (accepted table n acceptor.table acceptor.symbols at.first at.second table.initial place.first at.first_track ends.first);
          second = subst A (sym same.1)
              (accepted table n acceptor.table acceptor.symbols at.second at.first table.initial place.second at.second_track ends.second);
          end = at.difference;
          normal = normal_of_leads group x at.difference letter (subst E end to.1.0);
          leads = subst L (sym same.0) (subst M (sym same.1) at.leads);
        }

    ends_of_multiplied : (u v : List ℕ) → IsOver n u → IsOver n v
        → IsMultiplied group words (record { alphabet = Plain n; table = table }) x u v → EndsAt table machine (padded n u v) (step 1 (n + 1) x)
    ends_of_multiplied u v over also is =
        let one = track_of_accepted u v is.first in
        let two = track_of_accepted v u is.second in
        let run = run_of_leads group words step are u v 1 [] is.end over also first_number is.leads in
        let kept = kept_of_number words run.0 is.end run.1.0 in
        let to = leads_step group words step are 1 (n + 1) x [] is.end first_number pad wide (leads_of_normal group x is.end letter is.normal) kept in
        let same : run.0 ≡ step 1 (n + 1) x = one_number words run.0 (suc to.0) is.end apart run.1.0 to.1.1 ∙ sym to.1.0 in
        let place : Place = record { first = one.0; second = two.0; difference = run.0 } in
        record {
          place = place;
          leads_there = leads_of_place (padded n u v) place (record {
            first = u;
            second = v;
            is_text = record { first_over = over; second_over = also; is_text = refl };
            first_track = one.1.0;
            second_track = two.1.0;
            difference = is.end;
            number = run.1.0;
            leads = is.leads;
          });
          first = one.1.1;
          second = two.1.1;
          difference = same;
        }

    pub ends_multiplied : (u v : List ℕ) → IsOver n u → IsOver n v
        → EndsAt table machine (padded n u v) (step 1 (n + 1) x)
        ↔ IsMultiplied group words (record { alphabet = Plain n; table = table }) x u v
    ends_multiplied u v over also = (multiplied_of_ends u v over also, ends_of_multiplied u v over also)

  -- ---- the automaton

  pub pairs_automaton : {made : Table} {states : List Place} {origins : List (ℕ × ℕ)} → IsExploration machine made states origins
      → HasSymbols (pair_symbols n) made → IsAutomaton (record { alphabet = Pair n; table = made })
  pairs_automaton {made} explored low = record {
    generators = acceptor.generators;
    table = explored.is_table;
    symbols = low;
    texts = λ text some. on text some (leads machine text) refl;
  }
    where
      on : (text : List ℕ) → state_after made text ≢ 0 → (o : Option Place) → leads machine text ≡ o → IsTextOf (Pair n) text
      on text some None is = absurd (some ((leads_nowhere explored text).1 is))
      on text some (Some place) is = IsPadded-from_pair (place_of_leads text place is).is_text

  -- ---- how many places there are

  some_place : (text : List ℕ) → IsSome (leads machine text) → (place : Place) × (leads machine text ≡ Some place)
  some_place text some = on (leads machine text) refl some
    where
      on : (o : Option Place) → leads machine text ≡ o → IsSome o → (place : Place) × (leads machine text ≡ Some place)
      on None is never = absurd (false≢true never)
      on (Some place) is there = (place, is)

  pub places_counted : (m : ℕ) → HasMoreStates machine m ↔ CountedPlaces group words table m
  places_counted m = (
    λ more. MoreThan-kept more
        (λ text some. let at = some_place text some in (at.0, place_of_leads text at.0 at.1))
        (λ text other here there same.
        let at = some_place text here in
        at.1 ∙ sym (leads_of_place other at.0 ((same at.0).0 (place_of_leads text at.0 at.1)))),
    λ more. MoreThan-kept more
        (λ text at. ap (λ o. is_some o) (leads_of_place text at.0 at.1))
        (λ text other here there same place. (
          λ at. place_of_leads other place (sym same ∙ leads_of_place text place at),
          λ at. place_of_leads text place (same ∙ leads_of_place other place at),
        )),
  )

-- ---- the same of an acceptor that is given, and of the number of generators as it is read from the acceptor

module _ {group : Group} {words : List (List ℕ)} {acceptor : Automaton} {n : ℕ} {step : ℕ → ℕ → ℕ → ℕ} (same : n ≡ group.n)
    (alphabet : acceptor.alphabet ≡ Plain group.n) (is : IsAutomaton acceptor) (are : AreSteps group words step)
    (apart : AreApart words) (empty : slice_get words 0 ≡ Some []) where
  plain_automaton : IsAutomaton (record { alphabet = Plain group.n; table = acceptor.table })
  plain_automaton =
      let P : Alphabet → Type 0 = λ a. IsAutomaton (record { alphabet = a; table = acceptor.table }) in subst P alphabet is

  module _ (targets : List ℕ) {made : Table} {states : List Place} {origins : List (ℕ × ℕ)}
      (explored : IsExploration (pairs acceptor.table n step targets) made states origins) where
    explored_same : IsExploration (pairs acceptor.table group.n step targets) made states origins
    explored_same =
        let P : ℕ → Type 0 = λ m. IsExploration (pairs acceptor.table m step targets) made states origins in subst P same explored

    pub made_automaton : HasSymbols (pair_symbols n) made → IsAutomaton (record { alphabet = Pair n; table = made })
    made_automaton low =
        let P : ℕ → Type 0 = λ m. HasSymbols (pair_symbols m) made in
        let Q : ℕ → Type 0 = λ m. IsAutomaton (record { alphabet = Pair m; table = made }) in
        subst Q (sym same)
        (pairs_automaton group words acceptor.table step targets plain_automaton are apart empty explored_same (subst P same low))

    -- the pairs that end at the number of a generator's normal form are those of its multiplier
    pub made_ends : (x : ℕ) → 0 < x → x ≤ group.n → (u v : List ℕ) → IsOver group.n u → IsOver group.n v
        → EndsAt acceptor.table (pairs acceptor.table n step targets) (padded group.n u v) (step 1 (n + 1) x) ↔ IsMultiplied group words acceptor x u v
    made_ends x positive letter u v over also =
        let E : ℕ → Type 0 = λ m. EndsAt acceptor.table (pairs acceptor.table m step targets) (padded group.n u v) (step 1 (m + 1) x)
        ↔ IsMultiplied group words acceptor x u v in
        let A : Alphabet → Type 0 = λ a.
        EndsAt acceptor.table (pairs acceptor.table group.n step targets) (padded group.n u v) (step 1 (group.n + 1) x)
        ↔ IsMultiplied group words (record { alphabet = a; table = acceptor.table }) x u v in
        subst E (sym same) (subst A (sym alphabet)
        (ends_multiplied group words acceptor.table step targets plain_automaton are apart empty x positive letter u v over also))

  pub made_counts : (targets : List ℕ) (m : ℕ) → HasMoreStates (pairs acceptor.table n step targets) m ↔ CountedPlaces group words acceptor.table m
  made_counts targets m =
      let counted = places_counted group words acceptor.table step targets plain_automaton are apart empty m in
      let P : ℕ → Type 0 = λ k. HasMoreStates (pairs acceptor.table k step targets) m in
      (λ more. counted.0 (subst P same more), λ more. subst P (sym same) (counted.1 more))
