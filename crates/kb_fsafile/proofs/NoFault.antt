-- Checks that find nothing in what is read, in the order of the checks.
use Rattle.std.proofs.Common.{◌≡◌, ℕ, zero, suc, ◌<◌, ◌≤◌, ℤ, pos, List, [], ◌∷◌, length, get_or, Contains, Option, None, Some, ◌⊎◌, inl, inr, refl, sym, ap, subst, ◌∙◌, arith}
use Rattle.std.specs.Prelude.{codes}
use Rattle.kb_record.specs.Tree.{Value, number_value, string_value, record_value, list_value, Fields, Places}
use Rattle.kb_fields.specs.Fields.{value_of, bare_name, list_of_names, place_count, HasFieldTwice}
use Rattle.kb_fields.specs.Generators.{AreGeneratorNames}
use Rattle.kb_fields.specs.declared.error.NamesFault.TheVariants as names_faults
use Rattle.kb_fields.proofs.NamingLemmas.{none_within}
use Rattle.kb_fields.proofs.NameFaults.{no_names_fault}
use Rattle.kb_fields.proofs.ListingLemmas.{list_same}
use Rattle.kb_fields.proofs.NumberLemmas.{one_list_of_numbers}
use Rattle.kb_fsa.specs.declared.alphabet.Alphabet.{Alphabet}
use Rattle.kb_fsa.specs.Table.{Moves, Table}
use Rattle.kb_fsafile.specs.Kinds.{count_value, list_of_numbers, IsNumbers, StandsFor, IsNumberOf}
use Rattle.kb_fsafile.specs.Holds.{HoldsRecord, HoldsString, HoldsCount, IsDense, IsPairSize, HoldsNames, HoldsPairs, HoldsAlphabet, HoldsStates, HoldsInitial, HoldsRows, HasNoDefault, HoldsTable, format_name}
use Rattle.kb_fsafile.specs.Checks.{is_fsa_field, alphabet_field, alphabet_type_field, arity_field, base_field, base_type_field, names_field, names_size_field, pairs_size_field, names_format_field, states_field, states_type_field, states_size_field, initial_field, accepting_field, table_field, default_field, table_format_field, transitions_field}
use Rattle.kb_fsafile.specs.Checks.{RowStep, Check, no_field_twice, of_field, of_row, padded_texts, stage_of}
use Rattle.kb_fsafile.specs.Standing.{IsAlphabetOf, IsBaseOf, HasNamesOf, of_words, of_pairs, ListsNames, HasTableOf}
use Rattle.kb_fsafile.specs.Faults.{IsRefusedValue, Finds, FindsInRows}
use Rattle.kb_fsafile.specs.Reading.{IsFreeBefore, HasLetters}
use Rattle.kb_fsafile.specs.declared.format.Format.{Format}
use Rattle.kb_fsafile.specs.declared.error.FsaError.{FsaError}
use Rattle.kb_fsafile.proofs.UniqueAutomaton.{string_same, count_same, one_count_of_states, identifiers_or_product}
use Rattle.kb_fsafile.proofs.CheckLemmas.{order_small, order_positive}
use Rattle.kb_fsafile.proofs.Owners.{one_type, one_listing, one_table_of}
use Rattle.kb_fsafile.proofs.HeldFields.{initial_numbers, dense_format, no_default_target, count_of_rows}
use Rattle.kb_fsafile.proofs.FirstLemmas.{at_start, stage_passed, nowhere_passed, absent_passed, value_passed}
use Rattle.kb_fsafile.proofs.RowFaults.{number_of, rows_none}
use Rattle.kb_fsafile.proofs.TextLemmas.{size_of_letters}

number_same : {a b : ℤ} → number_value a ≡ number_value b → a ≡ b
number_same e = cc

-- a list that has one number or none
only_number : (state : ℕ) (numbers : List ℤ) (z : ℤ) → numbers ≡ pos state ∷ [] → Contains numbers z → z ≡ pos state
only_number state numbers z same found =
    let P : List ℤ → Type 0 = λ ns. Contains ns z in one (subst P same found)
  where
    at : (k : ℕ) → k < 1 → get_or (pos state ∷ []) k z ≡ z → z ≡ pos state
    at zero within is = sym is
    at (suc k) within is = absurd (omega (arith, within))

    one : Contains (pos state ∷ []) z → z ≡ pos state
    one c = at c.0 c.1 c.2

no_number : (numbers : List ℤ) (z : ℤ) → numbers ≡ [] → Contains numbers z → ⊥
no_number numbers z same found = let none = ap length same in omega (arith, none, found.1)

module _ (given : Fields) where
  pub once_passed : ((name : List ℕ) → HasFieldTwice (record_value given) name → ⊥) → IsFreeBefore given 0 → IsFreeBefore given 1
  once_passed once free = stage_passed given 0 none free
    where
      none : (c : Check) (e : FsaError) → stage_of c ≡ 0 → Finds given c e → ⊥
      none no_field_twice e at found = none_within (record_value given) once found.2.check found.0 found.2.found
      none (of_field p s) e at found = let some = order_positive p in omega (arith, at, some)
      none (of_row k s) e at found = omega (arith, at)
      none padded_texts e at found = omega (arith, at)

  pub is_fsa_passed : value_of given (codes "isFSA") ≡ Some (bare_name (codes "true")) → IsFreeBefore given 1 → IsFreeBefore given 2
  is_fsa_passed is free = value_passed given is_fsa_field given refl (bare_name (codes "true")) is refl (λ e refusal. refusal) (λ e refusal. refusal) free

  -- ---- the alphabet

  pub alphabet_passed : (letters : Fields) → HoldsRecord given (codes "alphabet") letters → IsFreeBefore given 2 → IsFreeBefore given 3
  alphabet_passed letters is free = value_passed given alphabet_field given refl (record_value letters) is (letters, refl) (λ e refusal. refusal) (λ e refusal. refusal) free

  pub words_passed : (letters : Fields) → IsAlphabetOf given letters (codes "identifiers") → IsFreeBefore given 3 → IsFreeBefore given 4
  words_passed letters is free =
      value_passed given alphabet_type_field letters is.is_record (string_value (codes "identifiers")) is.typed (codes "identifiers", refl)
      (λ e refusal. refusal.3 (sym (string_same refusal.2))) (λ e refusal. refusal) free

  pub pairs_passed : (letters : Fields) → IsAlphabetOf given letters (codes "product") → IsFreeBefore given 3 → IsFreeBefore given 4
  pairs_passed letters is free =
      value_passed given alphabet_type_field letters is.is_record (string_value (codes "product")) is.typed (codes "product", refl)
      (λ e refusal. refusal.4 (sym (string_same refusal.2))) (λ e refusal. refusal) free

  -- an alphabet of words has no fields of pairs
  no_pairs : (letters other : Fields) → IsAlphabetOf given letters (codes "identifiers") → IsAlphabetOf given other (codes "product") → ⊥
  no_pairs letters other is product = identifiers_or_product (one_type given letters other _ _ is product)

  pub no_base_passed : (letters : Fields) → IsAlphabetOf given letters (codes "identifiers") → IsFreeBefore given 4 → IsFreeBefore given 7
  no_base_passed letters is free =
      nowhere_passed given base_type_field (λ owner at. no_pairs letters at.letters is at.is_product)
      (nowhere_passed given base_field (λ owner at. no_pairs letters owner is at) (nowhere_passed given arity_field (λ owner at. no_pairs letters owner is at) free))

  pub arity_passed : (letters : Fields) → IsAlphabetOf given letters (codes "product") → HoldsCount letters (codes "arity") 2 → IsFreeBefore given 4 → IsFreeBefore given 5
  arity_passed letters is two free =
      value_passed given arity_field letters is (count_value 2) two (pos 2, refl) (λ e refusal. refusal.3 (sym (number_same refusal.2))) (λ e refusal. refusal) free

  pub base_passed : (letters base : Fields) → IsAlphabetOf given letters (codes "product") → HoldsRecord letters (codes "base") base → IsFreeBefore given 5
      → IsFreeBefore given 6
  base_passed letters base is at free = value_passed given base_field letters is (record_value base) at (base, refl) (λ e refusal. refusal) (λ e refusal. refusal) free

  pub base_type_passed : (base : Fields) → IsBaseOf given base → HoldsString base (codes "type") (codes "identifiers") → IsFreeBefore given 6 → IsFreeBefore given 7
  base_type_passed base is typed free =
      value_passed given base_type_field base is (string_value (codes "identifiers")) typed (codes "identifiers", refl)
      (λ e refusal. refusal.3 (sym (string_same refusal.2))) (λ e refusal. refusal) free

  module _ (letters : Fields) (names : List (List ℕ)) (is : HasNamesOf given letters)
      (listed : value_of letters (codes "names") ≡ Some (list_value (list_of_names names))) where
    pub names_passed : AreGeneratorNames names → IsFreeBefore given 7 → IsFreeBefore given 8
    names_passed are free =
        value_passed given names_field letters is (list_value (list_of_names names)) listed (names, refl)
        (λ e refusal. let never = no_names_fault _ names names_faults.TooMany refl are refusal.1 in cc)
        (λ e refusal. let never = no_names_fault _ names (names_faults.Taken refusal.0) refl are refusal.2 in cc) free

    pub names_size_passed : HoldsCount letters (codes "size") (length names) → IsFreeBefore given 8 → IsFreeBefore given 9
    names_size_passed counted free = value_passed given names_size_field letters is (count_value (length names)) counted (length names, refl) other (λ e refusal. refusal) free
      where
        same : (others : List (List ℕ)) → value_of letters (codes "names") ≡ Some (list_value (list_of_names others)) → others ≡ names
        same others at = one_listing given others names (record { letters = letters; has_names = is; listed = at }) (record { letters = letters; has_names = is; listed = listed })

        other : (e : FsaError) → IsRefusedValue given names_size_field letters (count_value (length names)) e → ⊥
        other e refusal = refusal.5 (sym (count_same refusal.4) ∙ sym (ap length (same refusal.1 refusal.3)))

    pub names_format_passed : IsDense (value_of letters (codes "format")) → IsFreeBefore given 10 → IsFreeBefore given 11
    names_format_passed dense free = go (value_of letters (codes "format")) refl
      where
        go : (v : Option Value) → value_of letters (codes "format") ≡ v → IsFreeBefore given 11
        go None absent = absent_passed given names_format_field letters is refl absent free
        go (Some value) at =
            let same = dense_format letters value dense at in
            value_passed given names_format_field letters is value at (codes "dense", same) (λ e refusal. refusal.3 (string_same (sym refusal.2 ∙ same))) (λ e refusal. refusal) free

  pub no_pairs_size_passed : (letters : Fields) → IsAlphabetOf given letters (codes "identifiers") → IsFreeBefore given 9 → IsFreeBefore given 10
  no_pairs_size_passed letters is free = nowhere_passed given pairs_size_field (λ owner at. no_pairs letters owner is at) free

  pub pairs_size_passed : (letters : Fields) (names : List (List ℕ)) (size : ℕ) → IsAlphabetOf given letters (codes "product") → ListsNames given names
      → HoldsCount letters (codes "size") size → IsPairSize (length names) size → IsFreeBefore given 9 → IsFreeBefore given 10
  pairs_size_passed letters names size is lists sized right free =
      value_passed given pairs_size_field letters is (count_value size) sized (size, refl)
      (λ e refusal.
      let same = ap length (one_listing given names refusal.1 lists refusal.3) in
      let N : ℕ → Type 0 = λ n. IsPairSize n size in
      let S : ℕ → Type 0 = λ s. IsPairSize (length refusal.1) s in
      refusal.5 (subst S (count_same refusal.4) (subst N same right)))
      (λ e refusal. refusal) free

  -- the names of an alphabet of words, and what stands beside them
  pub named_words_passed : (letters : Fields) (names : List (List ℕ)) → IsAlphabetOf given letters (codes "identifiers") → HoldsNames letters names → IsFreeBefore given 4
      → IsFreeBefore given 11
  named_words_passed letters names is named free =
      let has = of_words is in
      names_format_passed letters names has named.listed named.format (no_pairs_size_passed letters is (names_size_passed letters names has named.listed named.counted
      (names_passed letters names has named.listed named.free (no_base_passed letters is free))))

  pub named_pairs_passed : (letters : Fields) (names : List (List ℕ)) (size : ℕ) → IsAlphabetOf given letters (codes "product") → HoldsPairs letters names size → IsFreeBefore given 4
      → IsFreeBefore given 11
  named_pairs_passed letters names size is held free =
      let base : IsBaseOf given held.base = record { letters = letters; is_product = is; is_record = held.is_base } in
      let has = of_pairs base held.named.type in
      let lists : ListsNames given names = record { letters = held.base; has_names = has; listed = held.named.listed } in
      names_format_passed held.base names has held.named.listed held.named.format (pairs_size_passed letters names size is lists held.sized held.right_size
      (names_size_passed held.base names has held.named.listed held.named.counted (names_passed held.base names has held.named.listed held.named.free
      (base_type_passed held.base base held.named.type (base_passed letters held.base is held.is_base (arity_passed letters is held.arity free))))))

  pub letters_passed : (names : List (List ℕ)) (alphabet : Alphabet) (size : ℕ) → HasLetters given names alphabet size → IsFreeBefore given 2 → IsFreeBefore given 11
  letters_passed names alphabet size has free = go has.lettered
    where
      go : HoldsAlphabet has.letters names alphabet size → IsFreeBefore given 11
      go (HoldsAlphabet.plain is counted named) =
          let at : IsAlphabetOf given has.letters (codes "identifiers") = record { is_record = has.is_record; typed = named.type } in
          named_words_passed has.letters names at named (words_passed has.letters at (alphabet_passed has.letters has.is_record free))
      go (HoldsAlphabet.pairs is held) =
          let at : IsAlphabetOf given has.letters (codes "product") = record { is_record = has.is_record; typed = held.type } in
          named_pairs_passed has.letters names size at held (pairs_passed has.letters at (alphabet_passed has.letters has.is_record free))

  -- ---- the states

  pub states_record_passed : (states : Fields) → HoldsRecord given (codes "states") states → IsFreeBefore given 11 → IsFreeBefore given 12
  states_record_passed states is free = value_passed given states_field given refl (record_value states) is (states, refl) (λ e refusal. refusal) (λ e refusal. refusal) free

  pub states_type_passed : (states : Fields) → HoldsRecord given (codes "states") states → HoldsString states (codes "type") (codes "simple") → IsFreeBefore given 12
      → IsFreeBefore given 13
  states_type_passed states is typed free =
      value_passed given states_type_field states is (string_value (codes "simple")) typed (codes "simple", refl)
      (λ e refusal. refusal.3 (sym (string_same refusal.2))) (λ e refusal. refusal) free

  pub states_passed : (count : ℕ) → HoldsStates given count → IsFreeBefore given 11 → IsFreeBefore given 14
  states_passed count held free =
      value_passed given states_size_field held.states held.is_record (count_value count) held.size (count, refl) (λ e refusal. refusal) (λ e refusal. refusal)
      (states_type_passed held.states held.is_record held.type (states_record_passed held.states held.is_record free))

  module _ (count : ℕ) (counted : HoldsStates given count) where
    same_count : (other : ℕ) → HoldsStates given other → count ≡ other
    same_count other holds = one_count_of_states given count other counted holds

    pub initial_passed : (state : ℕ) → HoldsInitial given count state → IsFreeBefore given 14 → IsFreeBefore given 15
    initial_passed state held free = go (initial_numbers given count state held)
      where
        go : (value_of given (codes "initial") ≡ Some (list_value (list_of_numbers [])))
            ⊎ ((value_of given (codes "initial") ≡ Some (list_value (list_of_numbers (pos state ∷ [])))) × ((0 < state) × (state ≤ count))) → IsFreeBefore given 15
        go (inl none) =
            value_passed given initial_field given refl (list_value (list_of_numbers [])) none ([], refl)
            (λ e refusal. let same : refusal.1 ≡ [] = one_list_of_numbers _ _ (sym refusal.2) in let few = ap length same in omega (arith, few, refusal.3))
            (λ e refusal. no_number refusal.2 refusal.3 (one_list_of_numbers _ _ (sym refusal.5)) refusal.6) free
        go (inr one) =
            value_passed given initial_field given refl (list_value (list_of_numbers (pos state ∷ []))) one.0 (pos state ∷ [], refl)
            (λ e refusal. let same : refusal.1 ≡ pos state ∷ [] = one_list_of_numbers _ _ (sym refusal.2) in let few : length refusal.1 ≡ 1 = ap length same in omega (arith, few, refusal.3))
            (λ e refusal.
            let is = only_number state refusal.2 refusal.3 (one_list_of_numbers _ _ (sym refusal.5)) refusal.6 in
            let count_is = same_count refusal.1 refusal.4 in
            refusal.7 (number_of refusal.1 state refusal.3 (sym is) one.1.0 (omega (arith, one.1.1, count_is)))) free

    pub accepting_passed : (value : Value) → value_of given (codes "accepting") ≡ Some value → IsNumbers value → ((z : ℤ) → StandsFor value z → IsNumberOf count z)
        → IsFreeBefore given 15 → IsFreeBefore given 16
    accepting_passed value at numbers within free =
        value_passed given accepting_field given refl value at numbers (λ e refusal. refusal)
        (λ e refusal. let N : ℕ → Type 0 = λ n. IsNumberOf n refusal.2 in refusal.5 (subst N (same_count refusal.1 refusal.3) (within refusal.2 refusal.4))) free

  -- ---- the table

  module _ (table : Fields) (is : HoldsRecord given (codes "table") table) where
    pub table_passed : IsFreeBefore given 16 → IsFreeBefore given 17
    table_passed free = value_passed given table_field given refl (record_value table) is (table, refl) (λ e refusal. refusal) (λ e refusal. refusal) free

    pub default_passed : HasNoDefault (value_of table (codes "defaultTarget")) → IsFreeBefore given 17 → IsFreeBefore given 18
    default_passed no_default free = go (value_of table (codes "defaultTarget")) refl
      where
        go : (v : Option Value) → value_of table (codes "defaultTarget") ≡ v → IsFreeBefore given 18
        go None absent = absent_passed given default_field table is refl absent free
        go (Some value) at =
            let same = no_default_target table value no_default at in
            value_passed given default_field table is value at (pos 0, same) (λ e refusal. refusal.3 (number_same (sym refusal.2 ∙ same))) (λ e refusal. refusal) free

    pub table_format_passed : (format : Format) → HoldsString table (codes "format") (format_name format) → IsFreeBefore given 18 → IsFreeBefore given 19
    table_format_passed format named free =
        value_passed given table_format_field table is (string_value (format_name format)) named (format_name format, refl)
        (λ e refusal. refusal.3 format (sym (string_same refusal.2))) (λ e refusal. refusal) free

    pub transitions_passed : (count : ℕ) (places : Places) → HoldsStates given count → value_of table (codes "transitions") ≡ Some (list_value places)
        → place_count places ≡ count → IsFreeBefore given 19 → IsFreeBefore given 20
    transitions_passed count places counted listed all free =
        value_passed given transitions_field table is (list_value places) listed (places, refl)
        (λ e refusal.
        let same : places ≡ refusal.2 = list_same refusal.4 in
        refusal.5 (ap place_count (sym same) ∙ (all ∙ one_count_of_states given count refusal.1 counted refusal.3)))
        (λ e refusal. refusal) free

  -- what is found in the rows of the text's one table
  module _ (format : Format) (size count : ℕ) (places : Places) (has : HasTableOf given format size count places) where
    pub in_table : (k : ℕ × RowStep) (e : FsaError) (other : Format) (again recount : ℕ) (others : Places) → HasTableOf given other again recount others
        → FindsInRows other again recount others k e → FindsInRows format size count places k e
    in_table k e other again recount others there found =
        let one = one_table_of given other format again size recount count others places there has in
        let F : Format → Type 0 = λ f. FindsInRows f again recount others k e in
        let S : ℕ → Type 0 = λ s. FindsInRows format s recount others k e in
        let C : ℕ → Type 0 = λ c. FindsInRows format size c others k e in
        let P : Places → Type 0 = λ p. FindsInRows format size count p k e in
        subst P one.places_same (subst C one.count_same (subst S one.size_same (subst F one.format_same found)))

    pub rows_passed : (rows : List Moves) → HoldsRows size count format places rows → IsFreeBefore given 20 → IsFreeBefore given 21
    rows_passed rows held free = stage_passed given 20 none free
      where
        none : (c : Check) (e : FsaError) → stage_of c ≡ 20 → Finds given c e → ⊥
        none no_field_twice e at found = omega (arith, at)
        none (of_field p s) e at found = let small = order_small p in omega (arith, at, small)
        none (of_row k s) e at found = rows_none size count format places rows held (k, s) e (in_table (k, s) e found.0 found.1 found.2 found.3 found.4 found.5)
        none padded_texts e at found = omega (arith, at)

  -- a text that says a table
  pub table_free : (names : List (List ℕ)) (alphabet : Alphabet) (read : Table) → HoldsTable given names alphabet read → IsFreeBefore given 21
  table_free names alphabet read h =
      let m = h.moves in
      rows_passed m.format h.size (length read.rows) m.places has read.rows m.each (transitions_passed m.table m.is_record (length read.rows) m.places h.states m.listed
      (count_of_rows h.size (length read.rows) m.format m.places read.rows m.each)
      (table_format_passed m.table m.is_record m.format m.named (default_passed m.table m.is_record m.no_default (table_passed m.table m.is_record until_table))))
    where
      letters : HasLetters given names alphabet h.size
      letters = record { letters = h.letters; is_record = h.is_record; lettered = h.lettered }

      has : HasTableOf given h.moves.format h.size (length read.rows) h.moves.places
      has = record {
        counted = h.states;
        sized = size_of_letters given names alphabet h.size letters;
        listed = record { table = h.moves.table; is_record = h.moves.is_record; named = h.moves.named; listed = h.moves.listed };
      }

      until_table : IsFreeBefore given 16
      until_table =
          accepting_passed (length read.rows) h.states h.accepting.value h.accepting.holds h.accepting.kind h.accepting.within
          (initial_passed (length read.rows) h.states read.initial h.initial (states_passed (length read.rows) h.states
          (letters_passed names alphabet h.size letters (is_fsa_passed h.is_fsa (once_passed h.once (at_start given))))))
