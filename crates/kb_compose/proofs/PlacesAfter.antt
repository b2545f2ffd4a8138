-- The machine goes by a text to exactly the pairs of states to which the text leads.
use Rattle.std.proofs.Common.{◌≡◌, ◌≢◌, ◌⊎◌, ℕ, ◌<◌, ◌≤◌, ◌^◌, max, nat_eq, ◌||◌, Bool, true, false, if◌then◌else◌, List, [], ◌∷◌, ◌++◌, length, Contains, Option, Some, None, refl, sym, ap, ap₂, ◌∙◌, subst, inl, inr, arith, append-nil, append_assoc}
use Rattle.std.proofs.lemmas.Bool.{cases_eq, eq-eqb, ne_eqb}
use Rattle.std.proofs.lemmas.List.Elements.{All-nil}
use Rattle.std.proofs.lemmas.Option.{none-some, same_Some}
use Rattle.kb_fsa.specs.declared.alphabet.Alphabet.{Alphabet}
use Rattle.kb_fsa.specs.declared.alphabet.Alphabet.TheVariants.{Pair}
use Rattle.kb_fsa.specs.declared.ended.Ended.{Ended}
use Rattle.kb_fsa.specs.declared.ended.Ended.TheVariants.{Neither}
use Rattle.kb_fsa.specs.EndedWords.{ended_after, ended_by}
use Rattle.kb_fsa.specs.Table.{state_after}
use Rattle.kb_fsa.specs.Padding.{padded, IsPadded}
use Rattle.kb_fsa.specs.Language.{Automaton, generators}
use Rattle.kb_fsa.proofs.Paddings.{length-padded, IsPadded-from_pair}
use Rattle.kb_fsa.proofs.Lookups.{after_within}
use Rattle.kb_fsa.proofs.PaddedRuns.{run_of_text, text_of_run, symbol_of_after}
use Rattle.kb_explore.specs.Machine.{lead, leads}
use Rattle.kb_fsadet.specs.SubsetConstruction.{set_of, some_set, targets_by}
use Rattle.kb_fsadet.proofs.Sets.{Contains-none, Contains-here, Contains-cons_cases, IsAscending-set_of, Contains-set_of}
use Rattle.kb_fsadet.proofs.Targets.{Contains-targets_by}
use Rattle.kb_fsadet.proofs.ExactSets.{IsSetOf}
use Rattle.kb_compose.specs.declared.place.Place.{Place}
use Rattle.kb_compose.specs.Composition.{IsPairAfter}
use Rattle.kb_compose.specs.StatePairs.{number_of, first_state, second_state, pair_moves, moves_of_pairs, place_of, initial_pairs, state_pairs}
use Rattle.kb_compose.proofs.Numbers.{first_of_number, second_of_number}
use Rattle.kb_compose.proofs.Texts.{nothing_long}
use Rattle.kb_compose.proofs.Stepping.{IsPairTable}
use Rattle.kb_compose.proofs.Joins.{Contains-flat_map, flat_map_contains, IsJoin, join_of_moves, moves_of_join, pairs_before, pairs_after}

-- ---- which word has ended after a text with a symbol more

ended_more : (alphabet : Alphabet) (o : Option Ended) (text : List ℕ) (symbol : ℕ) (ended : Ended) → ended_by alphabet o text ≡ Some ended
    → ended_by alphabet o (text ++ symbol ∷ []) ≡ ended_after alphabet ended symbol
ended_more alphabet None text symbol ended is = absurd (none-some ended is)
ended_more alphabet (Some now) [] symbol ended is =
    at_end (ended_after alphabet now symbol) ∙ ap (λ e. ended_after alphabet e symbol) (same_Some _ _ is)
  where
    at_end : (o : Option Ended) → ended_by alphabet o [] ≡ o
    at_end None = refl
    at_end (Some e) = refl
ended_more alphabet (Some now) (first ∷ text) symbol ended is = ended_more alphabet (ended_after alphabet now first) text symbol ended is

-- the pair of two states, unless one is none
abbrev pair_unless : ℕ → ℕ → Bool → List ℕ
pair_unless p q true = []
pair_unless p q false = number_of p q ∷ []

pairs_unless : (p q : ℕ) (b : Bool) → (let l : List ℕ = if b then [] else number_of p q ∷ [] in l) ≡ pair_unless p q b
pairs_unless p q true = refl
pairs_unless p q false = refl

module _ (first second : Automaton) (pairs : first.alphabet ≡ Pair (generators first.alphabet))
    (one : IsPairTable (generators first.alphabet) first.table) (two : IsPairTable (generators first.alphabet) second.table) where
  abbrev n : ℕ
  n = generators first.alphabet

  -- the number is that of a pair to which the text leads
  pub record IsMember (text : List ℕ) (pair : ℕ) : Type 0 where
    pub p : ℕ
    pub q : ℕ
    pub pair_is : pair ≡ number_of p q
    pub after : IsPairAfter first second text (p, q)

  -- its second state has few numbers before it
  small : (text : List ℕ) (p q : ℕ) → IsPairAfter first second text (p, q) → q < 2 ^ 32
  small text p q after =
      let table = second.table in
      let is = two.is_table in
      let within = after_within table table.initial (padded n after.middle after.v) is is.initial in
      let leads = after.in_second.leads in
      let size = is.size in
      omega arith

  pub states_of_member : (text : List ℕ) (pair p q : ℕ) → pair ≡ number_of p q → IsPairAfter first second text (p, q)
      → (first_state pair ≡ p) × (second_state pair ≡ q)
  states_of_member text pair p q is after =
      let less = small text p q after in
      (ap first_state is ∙ first_of_number p q less, ap second_state is ∙ second_of_number p q less)

  -- which word has ended after a text
  ended_in : List ℕ → Option Ended
  ended_in text = ended_by first.alphabet (Some Neither) text

  run_of_padded : (text : List ℕ) → IsPadded n text → (ended : Ended) × (ended_in text ≡ Some ended)
  unfolding ended_in
  run_of_padded text is =
      let P : Alphabet → Type 0 = λ alphabet. (ended : Ended) × (ended_by alphabet (Some Neither) text ≡ Some ended) in
      subst P (sym pairs) (run_of_text (Pair n) text is)

  padded_of_run : (text : List ℕ) (ended : Ended) → ended_in text ≡ Some ended → IsPadded n text
  unfolding ended_in
  padded_of_run text ended runs =
      text_of_run (Pair n) text ended (sym (ap (λ alphabet. ended_by alphabet (Some Neither) text) pairs) ∙ runs)

  -- where a text leads: to no pair, or to all of its pairs with which word has ended
  pub record IsPlaceAfter (text : List ℕ) (place : Place) : Type 0 where
    pub ended : ended_by first.alphabet (Some Neither) text ≡ Some place.ended
    pub set : IsSetOf (IsMember text) place.pairs

  unfoldable pub HasPlace : List ℕ → Option Place → Type 0
  HasPlace text None = (pair : ℕ) → ¬ IsMember text pair
  HasPlace text (Some place) = IsPlaceAfter text place

  -- ---- a symbol more

  targets : List ℕ → ℕ → List ℕ
  targets set symbol = targets_by (moves_of_pairs n first.table second.table set) symbol

  module _ (text : List ℕ) (symbol : ℕ) where
    abbrev longer : List ℕ
    longer = text ++ symbol ∷ []

    module _ (set : List ℕ) (is : IsSetOf (IsMember text) set) where
      member_of_target : IsPadded n longer → 0 < symbol → (target : ℕ) → Contains (targets set symbol) target → IsMember longer target
      unfolding targets
      member_of_target padded_more some target at =
          let move = (Contains-targets_by (moves_of_pairs n first.table second.table set) symbol target).0 at in
          let from = Contains-flat_map (pair_moves n first.table second.table) set (symbol, target) move in
          let pair = from.0 in
          let member = (is.members pair).0 from.1.0 in
          let states = states_of_member text pair member.p member.q member.pair_is member.after in
          let to = join_of_moves n first.table second.table one two pair symbol target from.1.1 in
          let P = λ (p : ℕ). λ (q : ℕ). IsJoin n first.table second.table p q symbol to.p' to.q' in
          let join : P member.p member.q =
          subst (P member.p) states.1 (subst (λ (p : ℕ). P p (second_state pair)) states.0 to.join) in
          record {
            p = to.p';
            q = to.q';
            pair_is = to.target_is;
            after = pairs_after first second one two text symbol member.p member.q to.p' to.q' padded_more member.after join;
          }

      target_of_member : 0 < symbol → (target : ℕ) → IsMember longer target → Contains (targets set symbol) target
      unfolding targets
      target_of_member some target member =
          let from = pairs_before first second one two text symbol member.p member.q member.after in
          let pair = number_of from.p from.q in
          let states = states_of_member text pair from.p from.q refl from.before in
          let here : Contains set pair =
          (is.members pair).1 (record { p = from.p; q = from.q; pair_is = refl; after = from.before }) in
          let P = λ (p : ℕ). λ (q : ℕ). IsJoin n first.table second.table p q symbol member.p member.q in
          let join : P (first_state pair) (second_state pair) =
          subst (P (first_state pair)) (sym states.1) (subst (λ (p : ℕ). P p from.q) (sym states.0) from.join) in
          let move = moves_of_join n first.table second.table one two pair symbol member.p member.q some join in
          let each = flat_map_contains (pair_moves n first.table second.table) set pair (symbol, number_of member.p member.q) here move in
          let Q : ℕ → Type 0 = λ t. Contains (targets_by (moves_of_pairs n first.table second.table set) symbol) t in
          subst Q (sym member.pair_is)
          ((Contains-targets_by (moves_of_pairs n first.table second.table set) symbol (number_of member.p member.q)).1 each)

    padded_of_member : (pair : ℕ) → IsMember longer pair → IsPadded n longer
    padded_of_member pair member = IsPadded-from_pair member.after.is_text

    -- no pair where no pair was before
    none_more : ((pair : ℕ) → ¬ IsMember text pair) → (pair : ℕ) → ¬ IsMember longer pair
    none_more none pair member =
        let from = pairs_before first second one two text symbol member.p member.q member.after in
        none (number_of from.p from.q) (record { p = from.p; q = from.q; pair_is = refl; after = from.before })

    place_more : (place : Place) → IsPlaceAfter text place
        → HasPlace longer (place_of (ended_after first.alphabet place.ended symbol) (some_set (targets place.pairs symbol)))
    unfolding HasPlace ended_in
    place_more place is = by (ended_after first.alphabet place.ended symbol) refl (targets place.pairs symbol) refl
      where
        along : ended_by first.alphabet (Some Neither) longer ≡ ended_after first.alphabet place.ended symbol
        along = ended_more first.alphabet (Some Neither) text symbol place.ended is.ended

        by : (o : Option Ended) → ended_after first.alphabet place.ended symbol ≡ o → (found : List ℕ) → targets place.pairs symbol ≡ found
            → HasPlace longer (place_of o (some_set found))
        by None none found same = λ pair member.
            let run = run_of_padded longer (padded_of_member pair member) in
            none-some run.0 (sym (along ∙ none) ∙ run.1)
        by (Some next) some [] same = λ pair member.
            let at = target_of_member place.pairs is.set (symbol_of_after first.alphabet place.ended symbol next some).0 pair member in
            let P : List ℕ → Type 0 = λ l. Contains l pair in
            Contains-none pair (subst P same at)
        by (Some next) some (target ∷ others) same =
            let all = target ∷ others in
            let positive = (symbol_of_after first.alphabet place.ended symbol next some).0 in
            let is_padded = padded_of_run longer next (along ∙ some) in
            let P = λ (pair : ℕ). λ (l : List ℕ). Contains l pair in
            record {
              ended = along ∙ some;
              set = record {
                ascends = IsAscending-set_of all;
                some = (target, member_of_target place.pairs is.set is_padded positive target (subst (P target) (sym same) (Contains-here target others)));
                members = λ pair. (
                  λ at. member_of_target place.pairs is.set is_padded positive pair (subst (P pair) (sym same) ((Contains-set_of all pair).0 at)),
                  λ member. (Contains-set_of all pair).1 (subst (P pair) same (target_of_member place.pairs is.set positive pair member)),
                );
              };
            }

  -- ---- the empty text

  start_member : (p q : ℕ) → first.table.initial ≡ p → second.table.initial ≡ q → p ≢ 0 → q ≢ 0 → IsMember [] (number_of p q)
  start_member p q here there some other = record {
    p = p;
    q = q;
    pair_is = refl;
    after = record {
      u = [];
      middle = [];
      v = [];
      is_text = record { first_over = All-nil (λ x. (0 < x) × (x ≤ n)); second_over = All-nil (λ x. (0 < x) × (x ≤ n)); is_text = refl };
      over = All-nil (λ x. (0 < x) × (x ≤ n));
      no_longer = omega arith;
      in_first = record { leads = here; some = some; stays = λ less. absurd (omega arith) };
      in_second = record { leads = there; some = other; stays = λ less. absurd (omega arith) };
    };
  }

  -- the words of the empty text are empty
  start_pairs : (p q : ℕ) → IsPairAfter first second [] (p, q) → (first.table.initial ≡ p) × (second.table.initial ≡ q)
  start_pairs p q after =
      let short = after.no_longer in
      let is = after.is_text in
      let long = length-padded n after.u after.v in
      let none : max (length after.u) (length after.v) ≡ 0 = sym long ∙ sym (ap length is.is_text) in
      let u_is = nothing_long after.u (omega arith) in
      let v_is = nothing_long after.v (omega arith) in
      let w_is = nothing_long after.middle (omega arith) in (
        ap (state_after first.table) (sym (ap₂ (padded n) u_is w_is)) ∙ after.in_first.leads,
        ap (state_after second.table) (sym (ap₂ (padded n) w_is v_is)) ∙ after.in_second.leads,
      )

  start_place : HasPlace [] (place_of (Some Neither) (some_set (initial_pairs first.table.initial second.table.initial)))
  unfolding HasPlace
  start_place = by (cases_eq first.table.initial 0) (cases_eq second.table.initial 0)
    where
      none_if : (b : Bool) → (nat_eq first.table.initial 0 || nat_eq second.table.initial 0) ≡ b → initial_pairs first.table.initial second.table.initial
          ≡ pair_unless first.table.initial second.table.initial b
      none_if b is =
          pairs_unless first.table.initial second.table.initial (nat_eq first.table.initial 0 || nat_eq second.table.initial 0)
          ∙ ap (pair_unless first.table.initial second.table.initial) is

      nowhere : initial_pairs first.table.initial second.table.initial ≡ [] → ((pair : ℕ) → ¬ IsMember [] pair)
          → HasPlace [] (place_of (Some Neither) (some_set (initial_pairs first.table.initial second.table.initial)))
      nowhere is none =
          let P : List ℕ → Type 0 = λ l. HasPlace [] (place_of (Some Neither) (some_set l)) in subst P (sym is) none

      by : (first.table.initial ≡ 0) ⊎ (first.table.initial ≢ 0) → (second.table.initial ≡ 0) ⊎ (second.table.initial ≢ 0)
          → HasPlace [] (place_of (Some Neither) (some_set (initial_pairs first.table.initial second.table.initial)))
      by (inl none) other =
          nowhere (none_if true (ap (λ b. b || nat_eq second.table.initial 0) (eq-eqb first.table.initial 0 none))) (λ pair member.
          let start = start_pairs member.p member.q member.after in
          member.after.in_first.some (sym start.0 ∙ none))
      by (inr some) (inl none) =
          nowhere (none_if true (ap₂ (λ a b. a || b) (ne_eqb first.table.initial 0 some) (eq-eqb second.table.initial 0 none))) (λ pair member.
          let start = start_pairs member.p member.q member.after in
          member.after.in_second.some (sym start.1 ∙ none))
      by (inr some) (inr other) =
          let p = first.table.initial in
          let q = second.table.initial in
          let pair = number_of p q in
          let is : initial_pairs p q ≡ pair ∷ [] =
          none_if false (ap₂ (λ a b. a || b) (ne_eqb first.table.initial 0 some) (ne_eqb second.table.initial 0 other)) in
          let P : List ℕ → Type 0 = λ l. HasPlace [] (place_of (Some Neither) (some_set l)) in
          let here : IsPlaceAfter [] (record { ended = Neither; pairs = set_of (pair ∷ []) }) = record {
            ended = refl;
            set = record {
              ascends = IsAscending-set_of (pair ∷ []);
              some = (pair, start_member p q refl refl some other);
              members = λ found. (
                λ at. elim (Contains-cons_cases pair [] found ((Contains-set_of (pair ∷ []) found).0 at)) [
                  | inl same ↦ subst (IsMember []) same (start_member p q refl refl some other)
                  | inr none ↦ absurd (Contains-none found none)
                ],
                λ member.
                    let start = start_pairs member.p member.q member.after in
                    let same : pair ≡ found = ap₂ number_of start.0 start.1 ∙ sym member.pair_is in
                    let Q : ℕ → Type 0 = λ x. Contains (set_of (pair ∷ [])) x in
                    subst Q same ((Contains-set_of (pair ∷ []) pair).1 (Contains-here pair [])),
              );
            };
          } in
          subst P (sym is) here

  -- ---- all texts

  module _ (ending : List ℕ) where
    places_on : (more text : List ℕ) (o : Option Place) → HasPlace text o → HasPlace (text ++ more) (lead (state_pairs first second ending) o more)
    unfolding HasPlace targets
    places_on [] text o has = let P : List ℕ → Type 0 = λ t. HasPlace t o in at_end o (subst P (sym (append-nil text)) has)
      where
        at_end : (p : Option Place) → HasPlace (text ++ []) p → HasPlace (text ++ []) (lead (state_pairs first second ending) p [])
        at_end None is = is
        at_end (Some place) is = is
    places_on (symbol ∷ more) text None none =
        let P : List ℕ → Type 0 = λ t. HasPlace t None in
        subst P (append_assoc text (symbol ∷ []) more) (places_on more (text ++ symbol ∷ []) None (none_more text symbol none))
    places_on (symbol ∷ more) text (Some place) is =
        let next = place_of (ended_after first.alphabet place.ended symbol) (some_set (targets place.pairs symbol)) in
        let P : List ℕ → Type 0 = λ t. HasPlace t (lead (state_pairs first second ending) next more) in
        subst P (append_assoc text (symbol ∷ []) more) (places_on more (text ++ symbol ∷ []) next (place_more text symbol place is))

    pub place_after : (text : List ℕ) → HasPlace text (leads (state_pairs first second ending) text)
    place_after text =
        places_on text [] (place_of (Some Neither) (some_set (initial_pairs first.table.initial second.table.initial))) start_place
