-- The machine of sets of rivals reads the acceptor's words, and goes to as many sets as these have of rivals.
use Rattle.std.proofs.Common.{◌≡◌, ◌≢◌, ◌↔◌, ℕ, ◌≤◌, true, nat_eq, List, [], ◌++◌, length, slice_get, Option, Some, None, IsSome, append_assoc, append-nil, refl, sym, ap, ◌∙◌, subst}
use Rattle.std.proofs.lemmas.Bool.{and_parts, eqb-true, false≢true}
use Rattle.std.proofs.lemmas.Option.{slice_get_within}
use Rattle.kb_word.specs.Names.{AreApart}
use Rattle.kb_word.specs.Words.{Less as Precedes, StandsAt, earlier, shorter}
use Rattle.kb_word.specs.Relations.{IsOver}
use Rattle.kb_word.specs.WordOrders.{Below}
use Rattle.kb_word.specs.declared.word_order.WordOrder.{WordOrder}
use Rattle.kb_word.specs.declared.word_order.WordOrder.TheVariants.{ShortLex}
use Rattle.kb_fsa.specs.Language.{IsAutomaton}
use Rattle.kb_fsa.specs.Table.{AcceptsFrom, HasSymbols, Table, state_after}
use Rattle.kb_fsa.specs.declared.alphabet.Alphabet.TheVariants.{Plain}
use Rattle.kb_explore.specs.Exploration.{IsExploration}
use Rattle.kb_explore.specs.Machine.{HasMoreStates, Machine, leads}
use Rattle.kb_explore.proofs.CountingLemmas.{MoreThan-kept}
use Rattle.kb_explore.proofs.ExplorationLemmas.{accepts_same, leads_nowhere}
use Rattle.kb_diff.specs.Groups.{Group}
use Rattle.kb_diff.specs.Steps.{AreSteps, HasNumber, Leads}
use Rattle.kb_diff.specs.Languages.{DifferenceAcceptor, IsDifferenceAcceptor, IsShownGreater}
use Rattle.kb_diff.proofs.StepRuns.{one_word}
use Rattle.kb_diffwa.specs.Comparing.{Compares, Comparison, Ended, Equal, Greater, Less, compares_less, ended, equal, greater, less}
use Rattle.kb_diffwa.specs.Rivals.{CountedRivals, IsRivalAfter, IsRivalOfAccepted, Rival}
use Rattle.kb_diffwa.specs.declared.rivals.Rivals.{Rivals}
use Rattle.kb_diffwa.specs.RivalMoves.{first_rival, shows_less}
use Rattle.kb_diffwa.specs.RivalSets.{AreAllSteps, Steps, members_from, rival_sets}
use Rattle.kb_diffwa.proofs.RivalSetRuns.{IsFree, IsLed, IsSetAfter, led}
use Rattle.kb_diffwa.proofs.RivalSteps.{HasRun, has_first}
use Rattle.kb_diffwa.proofs.RivalWords.{after_of_run, first_number, over_front, run_of_rival, steps_within}
use Rattle.kb_diffwa.proofs.Rows.{IsInSet, in_row, in_set, same_rows}

-- ---- a word compares as less where it precedes

precedes_of_compares : (s v : List ℕ) (c : Comparison) → Compares s v c → compares_less c ≡ true → Precedes v s
precedes_of_compares s v Equal (equal is) never = absurd (false≢true never)
precedes_of_compares s v Less (less as_long is) shows = is
precedes_of_compares s v Greater (greater as_long is) never = absurd (false≢true never)
precedes_of_compares s v Ended (ended fewer) shows = shorter fewer

-- how a word compares that precedes
record ComparesLess (s v : List ℕ) : Type 0 where
  comparison : Comparison
  compares : Compares s v comparison
  shows : compares_less comparison ≡ true

compares_of_precedes : (s v : List ℕ) → Precedes v s → ComparesLess s v
compares_of_precedes s v (shorter fewer) = record { comparison = Ended; compares = ended fewer; shows = refl }
compares_of_precedes s v (earlier as_long is) =
    record { comparison = Less; compares = less as_long (earlier as_long is); shows = refl }

-- some factor of the word is shown to be greater
record HasShownFactor (group : Group) (words : List (List ℕ)) (w : List ℕ) : Type 0 where
  factor : List ℕ
  before : List ℕ
  after : List ℕ
  whole : w ≡ before ++ factor ++ after
  shown : IsShownGreater group words factor

module _ (group : Group) (words : List (List ℕ)) (step : ℕ → ℕ → ℕ → ℕ) (are : AreSteps group words step)
    (first : slice_get words 0 ≡ Some []) (apart : AreApart words) where
  one_first : HasNumber words 1 []
  one_first = first_number group words step are first apart

  module _ (order : group.order ≡ ShortLex) where
    -- ---- rivals that show a lesser word

    shown_of_rival : (w : List ℕ) (rival : Rival) → IsRivalAfter group words w rival → shows_less rival ≡ true
        → HasShownFactor group words w
    shown_of_rival w rival after shows =
        let at = after.is_rival in
        let s = after.suffix in
        let v = after.word in
        let parts = and_parts (nat_eq rival.difference 1) (compares_less rival.comparison) shows in
        let N : ℕ → Type 0 = λ number. HasNumber words number at.difference in
        let one = eqb-true rival.difference 1 parts.0 in
        let empty = one_word words 1 at.difference [] (subst N one at.number) one_first in
        let L : List ℕ → Type 0 = λ d. Leads group words [] s v d in
        let B : WordOrder → Type 0 = λ order. Below order v s in record {
          factor = s;
          before = after.front;
          after = [];
          whole = after.whole ∙ sym (append-nil (after.front ++ s));
          shown = record {
            v = v;
            letters = at.letters;
            less = subst B (sym order) (precedes_of_compares s v rival.comparison at.compares parts.1);
            leads = subst L empty at.leads;
          };
        }

    -- a rival shows it, after a word that ends with a factor that is shown to be greater
    record HasLesser (w : List ℕ) : Type 0 where
      rival : Rival
      run : HasRun group.n step w rival
      shows : shows_less rival ≡ true

    lesser_of_shown : (before s : List ℕ) → IsOver group.n (before ++ s) → IsShownGreater group words s
        → HasLesser (before ++ s)
    lesser_of_shown before s over shown =
        let B : WordOrder → Type 0 = λ order. Below order shown.v s in
        let how = compares_of_precedes s shown.v (subst B order shown.less) in
        let rival : Rival = record { difference = 1; comparison = how.comparison } in
        let after : IsRivalAfter group words (before ++ s) rival = record {
          front = before;
          suffix = s;
          whole = refl;
          word = shown.v;
          is_rival = record {
            letters = shown.letters;
            difference = [];
            number = one_first;
            leads = shown.leads;
            compares = how.compares;
          };
        } in
        record {
          rival = rival;
          run = run_of_rival group words step are first apart (before ++ s) rival over after;
          shows = how.shows;
        }

    -- ---- the words

    accepted_of_free : (w : List ℕ) → IsFree group.n step w → DifferenceAcceptor group words w
    accepted_of_free w free = record {
      letters = free.letters;
      not_greater = λ s factor shown.
          let at = factor.1 in
          let over = over_front group.n w (at.before ++ s) at.after at.whole free.letters in
          let lesser = lesser_of_shown at.before s over shown in
          free.none_less (at.before ++ s) at.after lesser.rival at.whole lesser.run lesser.shows;
    }

    free_of_accepted : (w : List ℕ) → DifferenceAcceptor group words w → IsFree group.n step w
    free_of_accepted w accepted = record {
      letters = accepted.letters;
      none_less = λ front rest rival whole run shows.
          let over = over_front group.n w front rest whole accepted.letters in
          let after = after_of_run group words step are first apart front rival over run in
          let shown = shown_of_rival front rival after shows in
          let s = shown.factor in
          let stands_at : StandsAt w s (length shown.before) = record {
            before = shown.before;
            after = shown.after ++ rest;
            whole = whole ∙ ap (λ front. front ++ rest) shown.whole
                ∙ append_assoc (shown.before ++ s) shown.after rest;
            at = refl;
          } in
          accepted.not_greater s (length shown.before, stands_at) shown.shown;
    }

    rival_of_run : (w : List ℕ) (rival : Rival) → IsFree group.n step w → HasRun group.n step w rival
        → IsRivalOfAccepted group words w rival
    rival_of_run w rival free run = record {
      accepted = accepted_of_free w free;
      is_after = after_of_run group words step are first apart w rival free.letters run;
    }

    run_of_accepted : (w : List ℕ) (rival : Rival) → IsRivalOfAccepted group words w rival → HasRun group.n step w rival
    run_of_accepted w rival of_accepted =
        run_of_rival group words step are first apart w rival of_accepted.accepted.letters of_accepted.is_after

    -- ---- the machine

    module _ (letters : List Steps) (all : AreAllSteps group.n step (length words) letters) where
      machine : Machine (List Rivals)
      machine = rival_sets group.n (length words) letters

      leads_by : (w : List ℕ)
          → IsLed group.n step (length words) letters (slice_get_within words 0 [] first)
          (steps_within group words step are) all w (leads machine w)
      unfolding machine
      leads_by w = led group.n step (length words) letters (slice_get_within words 0 [] first)
          (steps_within group words step are) all w

      abbrev IsSet : List ℕ → List Rivals → Type 0
      IsSet = IsSetAfter group.n step (length words) letters (slice_get_within words 0 [] first)
          (steps_within group words step are) all

      set_at : (w : List ℕ) (members : List Rivals) → leads machine w ≡ Some members → IsSet w members
      unfolding IsLed
      set_at w members e =
          let P : Option (List Rivals) → Type 0 = IsLed group.n step (length words) letters
          (slice_get_within words 0 [] first) (steps_within group words step are) all w in
          subst P e (leads_by w)

      nowhere : (w : List ℕ) → leads machine w ≡ None → ¬ IsFree group.n step w
      unfolding IsLed
      nowhere w e =
          let P : Option (List Rivals) → Type 0 = IsLed group.n step (length words) letters
          (slice_get_within words 0 [] first) (steps_within group words step are) all w in
          subst P e (leads_by w)

      -- the word leads to a set
      record LeadsThere (w : List ℕ) : Type 0 where
        members : List Rivals
        leads_there : leads machine w ≡ Some members
        set : IsSet w members

      there_of_free : (w : List ℕ) → IsFree group.n step w → LeadsThere w
      there_of_free w free = by (leads machine w) refl
        where
          by : (o : Option (List Rivals)) → leads machine w ≡ o → LeadsThere w
          by None e = absurd (nowhere w e free)
          by (Some members) e = record { members = members; leads_there = e; set = set_at w members e }

      there_of_some : (w : List ℕ) → IsSome (leads machine w) → LeadsThere w
      there_of_some w some = by (leads machine w) refl some
        where
          by : (o : Option (List Rivals)) → leads machine w ≡ o → IsSome o → LeadsThere w
          by None e some = cc
          by (Some members) e some = record { members = members; leads_there = e; set = set_at w members e }

      some_of_there : (w : List ℕ) → LeadsThere w → IsSome (leads machine w)
      some_of_there w there =
          let P : Option (List Rivals) → Type 0 = λ o. IsSome o in subst P (sym there.leads_there) refl

      -- ---- sets of rivals

      -- words with the same rivals lead to one set
      one_set : (w other : List ℕ) → IsFree group.n step w → IsFree group.n step other
          → ((rival : Rival) → IsRivalOfAccepted group words w rival ↔ IsRivalOfAccepted group words other rival)
          → leads machine w ≡ leads machine other
      one_set w other free also alike =
          let here = there_of_free w free in
          let there = there_of_free other also in
          let one = here.set in
          let two = there.set in
          let rows = same_rows one.row two.row (one.long ∙ sym two.long) (λ rival. (
            λ at. (two.rivals rival).1 (run_of_accepted other rival
                ((alike rival).0 (rival_of_run w rival free ((one.rivals rival).0 at)))),
            λ at. (one.rivals rival).1 (run_of_accepted w rival
                ((alike rival).1 (rival_of_run other rival also ((two.rivals rival).0 at)))),
          )) in
          here.leads_there
          ∙ ap (λ (members : List Rivals). Some members) (one.is ∙ ap (members_from 1) rows ∙ sym two.is)
          ∙ sym there.leads_there

      -- and words that lead to one set have the same rivals
      kept_rival : (w other : List ℕ) (rival : Rival) → LeadsThere w → LeadsThere other
          → leads machine w ≡ leads machine other → IsRivalOfAccepted group words w rival
          → IsRivalOfAccepted group words other rival
      kept_rival w other rival here there same of_accepted =
          let one = here.set in
          let two = set_at other here.members (sym same ∙ here.leads_there) in
          let at = in_set one.row rival ((one.rivals rival).1 (run_of_accepted w rival of_accepted)) in
          let rows : members_from 1 one.row ≡ members_from 1 two.row = sym one.is ∙ two.is in
          let P : List Rivals → Type 0 = λ members. IsInSet members rival in
          rival_of_run other rival two.free ((two.rivals rival).0 (in_row two.row rival (subst P rows at)))

      rivals_counted : (m : ℕ) → HasMoreStates machine m ↔ CountedRivals group words m
      rivals_counted m = (
        λ more. MoreThan-kept more
            (λ w some.
            let there = there_of_some w some in
            (first_rival, rival_of_run w first_rival there.set.free (has_first group.n step w)))
            (λ w other some also alike.
            one_set w other (there_of_some w some).set.free (there_of_some other also).set.free alike),
        λ more. MoreThan-kept more
            (λ w of_accepted. some_of_there w (there_of_free w (free_of_accepted w of_accepted.1.accepted)))
            (λ w other here there same.
            let one = there_of_free w (free_of_accepted w here.1.accepted) in
            let two = there_of_free other (free_of_accepted other there.1.accepted) in
            λ rival. (kept_rival w other rival one two same, kept_rival other w rival two one (sym same))),
      )

      -- ---- the table of the explored machine

      module _ (table : Table) (states : List (List Rivals)) (origins : List (ℕ × ℕ))
          (explored : IsExploration machine table states origins) where
        accepts_there : (w : List ℕ) → AcceptsFrom table table.initial w ↔ DifferenceAcceptor group words w
        unfolding machine
        accepts_there w = (
          λ accepts.
              let at = (accepts_same explored w).0 accepts in
              accepted_of_free w (set_at w at.state at.leads_there).free,
          λ accepted.
              let there = there_of_free w (free_of_accepted w accepted) in
              (accepts_same explored w).1 (record {
                state = there.members;
                leads_there = there.leads_there;
                accepts = refl;
              }),
        )

        texts_over : (w : List ℕ) → state_after table w ≢ 0 → IsOver group.n w
        texts_over w some = by (leads machine w) refl
          where
            by : (o : Option (List Rivals)) → leads machine w ≡ o → IsOver group.n w
            by None e = absurd (some ((leads_nowhere explored w).1 e))
            by (Some members) e = (set_at w members e).free.letters

-- ---- the same by the numbers of generators and of words as they are read from the differences

module _ {group : Group} {words : List (List ℕ)} {step : ℕ → ℕ → ℕ → ℕ} {n count : ℕ} {letters : List Steps}
    (generators : n ≡ group.n) (many : count ≡ length words) (are : AreSteps group words step)
    (first : slice_get words 0 ≡ Some []) (apart : AreApart words) (order : group.order ≡ ShortLex)
    (all : AreAllSteps n step count letters) where
  by_numbers : AreAllSteps group.n step (length words) letters
  by_numbers =
      let P : ℕ → Type 0 = λ n. AreAllSteps n step count letters in
      let Q : ℕ → Type 0 = λ count. AreAllSteps group.n step count letters in
      subst Q many (subst P generators all)

  same_machine : rival_sets n count letters ≡ rival_sets group.n (length words) letters
  same_machine =
      ap (λ n. rival_sets n count letters) generators ∙ ap (λ count. rival_sets group.n count letters) many

  pub made_counts : (m : ℕ) → HasMoreStates (rival_sets n count letters) m ↔ CountedRivals group words m
  unfolding machine
  made_counts m =
      let P : Machine (List Rivals) → Type 0 = λ machine. HasMoreStates machine m ↔ CountedRivals group words m in
      subst P (sym same_machine) (rivals_counted group words step are first apart order letters by_numbers m)

  module _ {table : Table} {states : List (List Rivals)} {origins : List (ℕ × ℕ)}
      (explored : IsExploration (rival_sets n count letters) table states origins) where
    explored_too : IsExploration (rival_sets group.n (length words) letters) table states origins
    explored_too =
        let P : Machine (List Rivals) → Type 0 = λ machine. IsExploration machine table states origins in
        subst P same_machine explored

    pub made_acceptor : IsDifferenceAcceptor group words (record { alphabet = Plain n; table = table })
    unfolding machine
    made_acceptor =
        accepts_there group words step are first apart order letters by_numbers table states origins explored_too

    pub made_automaton : n ≤ 65534 → HasSymbols n table → IsAutomaton (record { alphabet = Plain n; table = table })
    unfolding machine
    made_automaton most symbols = record {
      generators = most;
      table = explored.is_table;
      symbols = symbols;
      texts = λ text some.
          let P : ℕ → Type 0 = λ n. IsOver n text in
          subst P (sym generators)
          (texts_over group words step are first apart order letters by_numbers table states origins explored_too text some);
    }
