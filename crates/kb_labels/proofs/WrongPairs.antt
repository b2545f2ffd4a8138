-- Words that go wrong are the first words of unequal pairs, by confluent rules of a group.
use Rattle.std.proofs.Common.{◌≡◌, ℕ, zero, suc, ◌+◌, ◌<◌, ◌≤◌, List, [], ◌∷◌, ◌++◌, Some, refl, sym, ap, ap₂, ◌∙◌, subst, arith, append_assoc}
use Rattle.std.specs.Option.{option_map, option_and_then}
use Rattle.std.proofs.lemmas.Bool.{eq-eqb, ne_eqb}
use Rattle.std.proofs.lemmas.List.{append-nil}
use Rattle.std.proofs.lemmas.List.Elements.{All-head, All-tail}
use Rattle.kb_word.specs.Words.{Pair, Less}
use Rattle.kb_word.specs.Relations.{IsOver, inverse_letter, inverse_word, relations_of}
use Rattle.kb_word.specs.WordOrders.{Below}
use Rattle.kb_word.specs.WordOrderLaws.{word_orders}
use Rattle.kb_word.specs.Rewriting.{AreDecreasing, NormalForm}
use Rattle.kb_word.specs.declared.word_order.WordOrder.{WordOrder}
use Rattle.kb_word.specs.declared.presentation.Presentation.{Presentation}
use Rattle.kb_word.proofs.PathLemmas.{congruent_reflexive, congruent_symmetric, congruent_transitive, congruent_covered}
use Rattle.kb_rules.proofs.Reducts.{normal_form_congruent}
use Rattle.kb_rules.proofs.Exists.{normal_form_exists}
use Rattle.kb_fsa.specs.declared.alphabet.Alphabet.{Alphabet}
use Rattle.kb_fsa.specs.declared.alphabet.Alphabet.TheVariants.{Pair as Pairs}
use Rattle.kb_fsa.specs.Table.{Table, AcceptsFrom, after, is_accepting, state_after, step}
use Rattle.kb_fsa.specs.Language.{Automaton, IsAutomaton, IsTextOf, generators}
use Rattle.kb_fsa.specs.Padding.{IsPadded, first_letters, letters_of, padded, second_letters}
use Rattle.kb_fsa.specs.PairSymbols.{first_letter, pair_symbol, second_letter}
use Rattle.kb_fsa.proofs.Lookups.{accepting_positive, after-append}
use Rattle.kb_fsa.proofs.PairSymbolLaws.{first_letter-pair_symbol, second_letter-pair_symbol}
use Rattle.kb_fsa.proofs.Unpadding.{first_letters-padded, second_letters-padded}
use Rattle.kb_diff.specs.Groups.{EachInverts, Group, group_of}
use Rattle.kb_structure.specs.Labels.{Labelling, IsGroup}
use Rattle.kb_structure.proofs.Letters.{over_empty}
use Rattle.kb_structure.proofs.Words.{congruent_behind, congruent_before}
use Rattle.kb_structure.proofs.Cancelling.{AreSame, cancel_left}
use Rattle.kb_labels.specs.Labels.{AreEqualSides, HaveOneNormalForm, labelling_of}
use Rattle.kb_labels.proofs.Consequences.{front_cancels}
use Rattle.kb_leastpair.specs.LeastPair.{IsLeastPair}
use Rattle.kb_labels.specs.declared.config.Config.{Config}
use Rattle.kb_labels.specs.Unequal.{IsUnequalPair, IsLeastUnequalSecond}
use Rattle.kb_labels.specs.Layers.{IsMove, IsWrong, Reaches}

first_letters-append : (n : ℕ) (text more : List ℕ) → first_letters n (text ++ more) ≡ first_letters n text ++ first_letters n more
first_letters-append n [] more = refl
first_letters-append n (symbol ∷ text) more =
    let front : List ℕ = letters_of n (first_letter n symbol) in
    ap (λ w. front ++ w) (first_letters-append n text more) ∙ sym (append_assoc front (first_letters n text) (first_letters n more))

second_letters-append : (n : ℕ) (text more : List ℕ)
    → second_letters n (text ++ more) ≡ second_letters n text ++ second_letters n more
second_letters-append n [] more = refl
second_letters-append n (symbol ∷ text) more =
    let front : List ℕ = letters_of n (second_letter n symbol) in
    ap (λ w. front ++ w) (second_letters-append n text more)
    ∙ sym (append_assoc front (second_letters n text) (second_letters n more))

-- one more letter of either word, where the label d before them leads to the label next
one_more : (labelling : Labelling) (front inverse d back next u v : List ℕ) → AreSame labelling (front ++ inverse) []
    → AreSame labelling (inverse ++ d ++ back) next → AreSame labelling u (next ++ v)
    → AreSame labelling (front ++ u) (d ++ (back ++ v))
one_more labelling front inverse d back next u v cancels leads rest =
    let P : List ℕ → Type 0 = λ w. AreSame labelling (front ++ (next ++ v)) w in
    let regroup : front ++ ((inverse ++ d ++ back) ++ v) ≡ (front ++ inverse) ++ (d ++ (back ++ v)) = simp append_assoc in
    let before : AreSame labelling (front ++ (next ++ v)) (front ++ ((inverse ++ d ++ back) ++ v)) =
    congruent_behind front (congruent_before v (congruent_symmetric leads)) in
    let both : AreSame labelling (front ++ (next ++ v)) ((front ++ inverse) ++ (d ++ (back ++ v))) = subst P regroup before in
    congruent_transitive (congruent_behind front rest)
    (congruent_transitive both (congruent_before (d ++ (back ++ v)) cancels))

letter_alone : (n number : ℕ) → number ≤ n → letters_of n number ≡ number ∷ []
letter_alone n number within =
    let differ : number ≡ n + 1 → ⊥ = λ same. let no : ⊥ = omega arith in no in rw (ne_eqb number (n + 1) differ) refl

padding_nothing : (n : ℕ) → letters_of n (n + 1) ≡ []
padding_nothing n = rw (eq-eqb (n + 1) (n + 1) refl) refl

-- a first word that is read, with the text and the second word's part beside it
record Traced (n : ℕ) (labelling : Labelling) (table : Table) (word : List ℕ) (config : Config) : Type 0 where
  text : List ℕ
  leads : state_after table text ≡ config.state
  firsts : first_letters n text ≡ word
  differs : AreSame labelling (word ++ config.label) (second_letters n text)

module _ (presentation : Presentation) (rules : List Pair) (x : ℕ) (multiplier : Automaton)
    (each : EachInverts presentation.n presentation.inv)
    (mutually : (a b : ℕ) → inverse_letter presentation.inv a ≡ Some b → inverse_letter presentation.inv b ≡ Some a)
    (alphabet : multiplier.alphabet ≡ Pairs presentation.n) (automaton : IsAutomaton multiplier)
    (order : WordOrder) (decreasing : AreDecreasing (Below order) rules)
    (equal_sides : AreEqualSides (relations_of presentation.inv presentation.eqs) rules)
    (one_normal : HaveOneNormalForm (relations_of presentation.inv presentation.eqs) rules)
    (end : List ℕ) (end_normal : NormalForm rules (x ∷ []) end) where
  abbrev labelling : Labelling
  labelling = labelling_of presentation x multiplier (λ state. [])

  abbrev group : Group
  group = group_of presentation rules

  abbrev n : ℕ
  n = presentation.n

  abbrev Same : List ℕ → List ℕ → Type 0
  Same = AreSame labelling

  number : generators multiplier.alphabet ≡ n
  number = ap generators alphabet

  is_group : IsGroup labelling
  is_group = record { each = λ a positive within. let count = number in each a positive (omega arith); mutual_inverses = mutually }

  same_as_normal : (w m : List ℕ) → NormalForm rules w m → Same w m
  same_as_normal w m normal = congruent_covered equal_sides (normal_form_congruent normal)

  traced : (size : ℕ) (word : List ℕ) (config : Config) → Reaches group multiplier.table size word config
      → Traced n labelling multiplier.table word config
  traced zero word config reaches =
      let P : List ℕ → Type 0 = λ w. Same (w ++ config.label) [] in
      let Q : List ℕ → Type 0 = λ w. Same w [] in record {
        text = [];
        leads = sym reaches.1.1.0;
        firsts = sym reaches.0;
        differs = subst P (sym reaches.0) (subst Q (sym reaches.1.0) (congruent_reflexive []));
      }
  traced (suc size) word config reaches =
      let from = reaches.0 in
      let before : List ℕ = reaches.1.0 in
      let symbol : ℕ = reaches.1.1.0 in
      let move = reaches.1.1.1.1.0 in
      let rest = traced size before from reaches.1.1.1.0 in
      let first : ℕ = first_letter n symbol in
      let front : List ℕ = letters_of n first in
      let back : List ℕ = letters_of n (second_letter n symbol) in
      let d : List ℕ = from.label in
      let e : List ℕ = config.label in
      let alone : front ≡ first ∷ [] = letter_alone n first move.letter in
      let word_is : word ≡ before ++ first ∷ [] = reaches.1.1.1.1.1 in
      let inverse : List ℕ = move.turned.inverse in
      let cancels = front_cancels labelling n first inverse move.turned.inverts in
      let E : List ℕ → Type 0 = λ w. Same e w in
      let turned : Same (front ++ e) (d ++ (back ++ [])) = one_more labelling front inverse d back e e [] cancels
      (same_as_normal (inverse ++ d ++ back) e move.turned.normal) (subst E (sym (append-nil e)) (congruent_reflexive e)) in
      let F : List ℕ → Type 0 = λ w. Same (w ++ e) (d ++ (back ++ [])) in
      let lettered : Same ((first ∷ []) ++ e) (d ++ (back ++ [])) = subst F alone turned in
      let behind : Same (before ++ ((first ∷ []) ++ e)) (before ++ (d ++ (back ++ []))) = congruent_behind before lettered in
      let G : List ℕ → Type 0 = λ w. Same w (before ++ (d ++ (back ++ []))) in
      let H : List ℕ → Type 0 = λ w. Same ((before ++ first ∷ []) ++ e) w in
      let whole : Same ((before ++ first ∷ []) ++ e) ((before ++ d) ++ (back ++ [])) =
      subst H (sym (append_assoc before d (back ++ []))) (subst G (sym (append_assoc before (first ∷ []) e)) behind) in
      let final : Same ((before ++ first ∷ []) ++ e) (second_letters n rest.text ++ (back ++ [])) =
      congruent_transitive whole (congruent_before (back ++ []) rest.differs) in
      let W : List ℕ → Type 0 = λ w. Same (w ++ e) (second_letters n (rest.text ++ symbol ∷ [])) in
      record {
        text = rest.text ++ symbol ∷ [];
        leads = after-append multiplier.table multiplier.table.initial rest.text (symbol ∷ [])
            ∙ ap (λ s. step multiplier.table s symbol) rest.leads ∙ move.leads;
        firsts = first_letters-append n rest.text (symbol ∷ [])
            ∙ ap₂ (λ (u v : List ℕ). u ++ (v ++ [])) rest.firsts alone ∙ sym word_is;
        differs = subst W (sym word_is) (subst H (sym (second_letters-append n rest.text (symbol ∷ []))) final);
      }

  -- a word that goes wrong is the first of an unequal pair
  pub unequal_of_wrong : (word : List ℕ) → IsWrong group multiplier.table end word
      → (v : List ℕ) × IsUnequalPair rules multiplier x word v
  unequal_of_wrong word is =
      let table = multiplier.table in
      let config = is.1.0 in
      let trace = traced is.0 word config is.1.1.0 in
      let second : List ℕ = is.1.1.1.0 in
      let other = is.1.1.1.1 in
      let ending : List ℕ = padded n [] second in
      let text : List ℕ = trace.text ++ ending in
      let accepted : AcceptsFrom table table.initial text =
      ap (is_accepting table) (after-append table table.initial trace.text ending)
      ∙ ap (λ s. is_accepting table (after table s ending)) trace.leads ∙ other.accepted in
      let positive = accepting_positive table (state_after table text) accepted in
      let T : Alphabet → Type 0 = λ a. IsTextOf a text in
      let pair : IsPadded n text = subst T alphabet (automaton.texts text (λ none. omega arith)) in
      let v : List ℕ = second_letters n trace.text ++ second in
      let first_is : pair.first ≡ word = sym (first_letters-padded n pair.first pair.second pair.first_over pair.second_over)
      ∙ ap (first_letters n) (sym pair.is_text) ∙ first_letters-append n trace.text ending
      ∙ ap₂ (λ (u w : List ℕ). u ++ w) trace.firsts (first_letters-padded n [] second (over_empty n) other.over) ∙ append-nil word in
      let second_is : pair.second ≡ v = sym (second_letters-padded n pair.first pair.second pair.first_over pair.second_over)
      ∙ ap (second_letters n) (sym pair.is_text) ∙ second_letters-append n trace.text ending
      ∙ ap (λ w. second_letters n trace.text ++ w) (second_letters-padded n [] second (over_empty n) other.over) in
      let text_is : text ≡ padded n word v = pair.is_text ∙ ap₂ (padded n) first_is second_is in
      let O : List ℕ → Type 0 = IsOver n in
      let N : ℕ → List ℕ → Type 0 = λ k w. IsOver k w in
      let word_over : IsOver n word = subst O first_is pair.first_over in
      let v_over : IsOver n v = subst O second_is pair.second_over in
      let R : ℕ → Type 0 = λ k. IsOver k word in
      let S : ℕ → Type 0 = λ k. IsOver k v in
      let one = normal_form_exists (word_orders order) rules decreasing (word ++ x ∷ []) in
      let two = normal_form_exists (word_orders order) rules decreasing v in (
        v,
        record {
          first_over = subst R (sym number) word_over;
          second_over = subst S (sym number) v_over;
          accepted = ap (λ k. is_accepting table (state_after table (padded k word v))) number
              ∙ ap (λ t. is_accepting table (state_after table t)) (sym text_is) ∙ accepted;
          product = one.0;
          other = two.0;
          product_normal = one.1;
          other_normal = two.1;
          different = λ same. other.different (sym (apart config second other.normal other.is_normal v one.0 two.0
              (subst R (sym number) word_over) one.1 two.1 same (congruent_before second trace.differs)));
        },
      )
    where
      apart : (config : Config) (second normal : List ℕ) → NormalForm rules (config.label ++ second) normal → (v m k : List ℕ)
          → IsOver (generators multiplier.alphabet) word → NormalForm rules (word ++ x ∷ []) m → NormalForm rules v k → m ≡ k
          → Same ((word ++ config.label) ++ second) v → end ≡ normal
      apart config second normal is_normal v m k over first_normal second_normal same differs =
          let M : List ℕ → Type 0 = λ w. Same (word ++ x ∷ []) w in
          let to_v : Same (word ++ x ∷ []) v =
          congruent_transitive (subst M same (same_as_normal (word ++ x ∷ []) m first_normal)) (congruent_symmetric (same_as_normal v k second_normal)) in
          let K : List ℕ → Type 0 = λ w. Same (word ++ x ∷ []) w in
          let both : Same (word ++ x ∷ []) (word ++ (config.label ++ second)) =
          subst K (append_assoc word config.label second) (congruent_transitive to_v (congruent_symmetric differs)) in
          let left = cancel_left labelling is_group word (x ∷ []) (config.label ++ second) over both in
          one_normal (x ∷ []) (config.label ++ second) end normal left end_normal is_normal

  abbrev Onward : ℕ → List ℕ → List ℕ → List ℕ → Config → Type 0
  Onward size word rest second config = Reaches group multiplier.table size word config
      × (AcceptsFrom multiplier.table config.state (padded n rest second) × ¬ Same (rest ++ x ∷ []) (config.label ++ second))

  goes_on : (a b size : ℕ) (word rest second whole : List ℕ) (config : Config) → (0 < a) × (a ≤ n) → (0 < b) × (b ≤ n + 1)
      → letters_of n b ++ second ≡ whole → Reaches group multiplier.table size word config
      → AcceptsFrom multiplier.table config.state (pair_symbol n a b ∷ padded n rest second)
      → ¬ Same (a ∷ rest ++ x ∷ []) (config.label ++ whole)
      → (to : Config) × Onward (suc size) (word ++ a ∷ []) rest second to
  goes_on a b size word rest second whole config letter other whole_is reaches accepted different =
      let table = multiplier.table in
      let symbol : ℕ = pair_symbol n a b in
      let first_is : first_letter n symbol ≡ a = first_letter-pair_symbol n a b letter.0 other in
      let second_is : second_letter n symbol ≡ b = second_letter-pair_symbol n a b other in
      let front_is : letters_of n (first_letter n symbol) ≡ a ∷ [] = ap (letters_of n) first_is ∙ letter_alone n a letter.1 in
      let back : List ℕ = letters_of n (second_letter n symbol) in
      let found = each a letter.0 letter.1 in
      let inverse : List ℕ = found.0 ∷ [] in
      let inverts : inverse_word presentation.inv (letters_of n (first_letter n symbol)) ≡ Some inverse =
      ap (inverse_word presentation.inv) front_is
      ∙ ap (option_and_then (λ y. option_map (λ v. v ++ y ∷ []) (Some []))) found.1 in
      let turn = normal_form_exists (word_orders order) rules decreasing (inverse ++ config.label ++ back) in
      let to : Config = record { state = step table config.state symbol; label = turn.0 } in
      let move : IsMove group table config symbol to = record {
        letter = omega (arith, first_is, letter.1);
        leads = refl;
        live = (padded n rest second, accepted);
        turned = record { inverse = inverse; inverts = inverts; normal = turn.1 };
      } in
      let front : List ℕ = letters_of n (first_letter n symbol) in
      let whole_back : back ++ second ≡ whole = ap (λ k. letters_of n k ++ second) second_is ∙ whole_is in
      let L : List ℕ → Type 0 = λ w. Same (w ++ (rest ++ x ∷ [])) (config.label ++ whole) in
      let M : List ℕ → Type 0 = λ w. Same (front ++ (rest ++ x ∷ [])) (config.label ++ w) in (
        to,
        (
          (config, (word, (symbol, (reaches, (move, ap (λ k. word ++ k ∷ []) (sym first_is)))))),
          (
            accepted,
            λ same. different (subst L front_is (subst M whole_back
                (one_more labelling front inverse config.label back turn.0 (rest ++ x ∷ []) second
                (front_cancels labelling n (first_letter n symbol) inverse inverts)
                (same_as_normal (inverse ++ config.label ++ back) turn.0 turn.1) same))),
          ),
        ),
      )

  goes_to_end : (size : ℕ) (word second : List ℕ) (config : Config) → IsOver n second → Onward size word [] second config
      → IsWrong group multiplier.table end word
  goes_to_end size word second config over onward =
      let own = normal_form_exists (word_orders order) rules decreasing (config.label ++ second) in
      let P : List ℕ → Type 0 = λ w. Same (config.label ++ second) w in (
        size,
        (
          config,
          (
            onward.0,
            (
              second,
              record {
                over = over;
                accepted = onward.1.0;
                normal = own.0;
                is_normal = own.1;
                different = λ same. onward.1.1 (congruent_transitive (same_as_normal (x ∷ []) end end_normal)
                    (congruent_symmetric (subst P same (same_as_normal (config.label ++ second) own.0 own.1))));
              },
            ),
          ),
        ),
      )

  from_rest : (rest second : List ℕ) (size : ℕ) (word : List ℕ) (config : Config) → IsOver n rest → IsOver n second
      → Onward size word rest second config → IsWrong group multiplier.table end (word ++ rest)
  from_rest [] second size word config over also onward =
      let P : List ℕ → Type 0 = IsWrong group multiplier.table end in
      subst P (sym (append-nil word)) (goes_to_end size word second config also onward)
  from_rest (a ∷ rest) [] size word config over also onward =
      let Q : ℕ → Type 0 = λ k. (0 < k) × (k ≤ n) in
      let next = goes_on a (n + 1) size word rest [] [] config (All-head Q a rest over) (omega arith, omega arith)
      (ap (λ w. w ++ []) (padding_nothing n)) onward.0 onward.1.0 onward.1.1 in
      let P : List ℕ → Type 0 = IsWrong group multiplier.table end in
      subst P (append_assoc word (a ∷ []) rest)
      (from_rest rest [] (suc size) (word ++ a ∷ []) next.0 (All-tail Q a rest over) also next.1)
  from_rest (a ∷ rest) (b ∷ second) size word config over also onward =
      let Q : ℕ → Type 0 = λ k. (0 < k) × (k ≤ n) in
      let letter = All-head Q b second also in
      let next = goes_on a b size word rest second (b ∷ second) config (All-head Q a rest over) (letter.0, omega (arith, letter.1))
      (ap (λ w. w ++ second) (letter_alone n b letter.1)) onward.0 onward.1.0 onward.1.1 in
      let P : List ℕ → Type 0 = IsWrong group multiplier.table end in
      subst P (append_assoc word (a ∷ []) rest)
      (from_rest rest second (suc size) (word ++ a ∷ []) next.0 (All-tail Q a rest over) (All-tail Q b second also) next.1)

  -- the first word of an unequal pair goes wrong
  pub wrong_of_unequal : (u v : List ℕ) → IsUnequalPair rules multiplier x u v → IsWrong group multiplier.table end u
  wrong_of_unequal u v unequal =
      let R : ℕ → Type 0 = λ k. IsOver k u in
      let S : ℕ → Type 0 = λ k. IsOver k v in
      let A : ℕ → Type 0 = λ k. AcceptsFrom multiplier.table multiplier.table.initial (padded k u v) in
      let accepted = subst A number unequal.accepted in
      let start : Config = record { state = multiplier.table.initial; label = [] } in
      from_rest u v 0 [] start (subst R number unequal.first_over) (subst S number unequal.second_over) (
        (refl, (refl, (refl, (padded n u v, accepted)))),
        (
          accepted,
          λ same. unequal.different (one_normal (u ++ x ∷ []) v unequal.product unequal.other same unequal.product_normal unequal.other_normal),
        ),
      )

  -- the least word that goes wrong, with its least second word, is the least unequal pair
  pub is_least_pair : (first second : List ℕ)
      → ((word : List ℕ) → IsWrong group multiplier.table end word → ¬ Less word first) → IsLeastUnequalSecond rules multiplier x first second
      → IsLeastPair (IsUnequalPair rules multiplier x) first second
  is_least_pair first second least is = record {
    holds = is.unequal;
    least_first = λ u v unequal less. least u (wrong_of_unequal u v unequal) less;
    least_second = is.least;
  }

  pub no_pair : ((word : List ℕ) → ¬ IsWrong group multiplier.table end word) → (u v : List ℕ) → ¬ IsUnequalPair rules multiplier x u v
  no_pair none u v unequal = none u (wrong_of_unequal u v unequal)
