-- The record in which a field stands, and the rows of a text, are determined.
use Rattle.std.proofs.Common.{◌≡◌, ℕ, List, sym, ap, subst, ◌∙◌}
use Rattle.std.specs.Prelude.{codes}
use Rattle.kb_record.specs.Tree.{Fields, Places}
use Rattle.kb_fsafile.specs.Holds.{HoldsRecord, HoldsString, HoldsCount, format_name}
use Rattle.kb_fsafile.specs.Checks.{FieldPlace, is_fsa_field, alphabet_field, alphabet_type_field, arity_field, base_field, base_type_field, names_field, names_size_field, pairs_size_field, names_format_field, states_field, states_type_field, states_size_field, initial_field, accepting_field, table_field, default_field, table_format_field, transitions_field}
use Rattle.kb_fsafile.specs.Standing.{IsAlphabetOf, IsBaseOf, HasNamesOf, of_words, of_pairs, StandsIn, ListsNames, ListsRows, HasSize, HasTableOf}
use Rattle.kb_fsafile.specs.declared.format.Format.{Format}
use Rattle.kb_fields.specs.Fields.{value_of}
use Rattle.kb_fields.proofs.ListingLemmas.{one_field_of_names}
use Rattle.kb_fsafile.proofs.UniqueAutomaton.{one_record, one_string, one_count, one_list, one_count_of_states, one_format, identifiers_or_product}

one_alphabet_record : (given a b : Fields) (s t : List ℕ) → IsAlphabetOf given a s → IsAlphabetOf given b t → a ≡ b
one_alphabet_record given a b s t h k = one_record given (codes "alphabet") a b h.is_record k.is_record

one_base : (given a b : Fields) → IsBaseOf given a → IsBaseOf given b → a ≡ b
one_base given a b h k =
    let letters = one_alphabet_record given h.letters k.letters _ _ h.is_product k.is_product in
    let P : Fields → Type 0 = λ fields. HoldsRecord fields (codes "base") a in
    one_record k.letters (codes "base") a b (subst P letters h.is_record) k.is_record

-- an alphabet has one type
pub one_type : (given a b : Fields) (s t : List ℕ) → IsAlphabetOf given a s → IsAlphabetOf given b t → s ≡ t
one_type given a b s t h k =
    let P : Fields → Type 0 = λ fields. HoldsString fields (codes "type") s in
    one_string b (codes "type") s t (subst P (one_alphabet_record given a b s t h k) h.typed) k.typed

pub one_names_record : (given a b : Fields) → HasNamesOf given a → HasNamesOf given b → a ≡ b
one_names_record given a b (of_words h) (of_words k) = one_alphabet_record given a b _ _ h k
one_names_record given a b (of_words h) (of_pairs k typed) = absurd (identifiers_or_product (one_type given _ _ _ _ h k.is_product))
one_names_record given a b (of_pairs h typed) (of_words k) = absurd (identifiers_or_product (one_type given _ _ _ _ k h.is_product))
one_names_record given a b (of_pairs h typed) (of_pairs k again) = one_base given a b h k

-- a field stands in one record
pub one_owner : (given : Fields) (place : FieldPlace) (a b : Fields) → StandsIn given place a → StandsIn given place b → a ≡ b
one_owner given is_fsa_field a b h k = h ∙ sym k
one_owner given alphabet_field a b h k = h ∙ sym k
one_owner given alphabet_type_field a b h k = one_record given (codes "alphabet") a b h k
one_owner given arity_field a b h k = one_alphabet_record given a b _ _ h k
one_owner given base_field a b h k = one_alphabet_record given a b _ _ h k
one_owner given base_type_field a b h k = one_base given a b h k
one_owner given names_field a b h k = one_names_record given a b h k
one_owner given names_size_field a b h k = one_names_record given a b h k
one_owner given pairs_size_field a b h k = one_alphabet_record given a b _ _ h k
one_owner given names_format_field a b h k = one_names_record given a b h k
one_owner given states_field a b h k = h ∙ sym k
one_owner given states_type_field a b h k = one_record given (codes "states") a b h k
one_owner given states_size_field a b h k = one_record given (codes "states") a b h k
one_owner given initial_field a b h k = h ∙ sym k
one_owner given accepting_field a b h k = h ∙ sym k
one_owner given table_field a b h k = h ∙ sym k
one_owner given default_field a b h k = one_record given (codes "table") a b h k
one_owner given table_format_field a b h k = one_record given (codes "table") a b h k
one_owner given transitions_field a b h k = one_record given (codes "table") a b h k

-- a text lists one list of names
pub one_listing : (given : Fields) (names others : List (List ℕ)) → ListsNames given names → ListsNames given others → names ≡ others
one_listing given names others h k =
    let letters = one_names_record given h.letters k.letters h.has_names k.has_names in
    one_field_of_names k.letters (codes "names") names others (ap (λ (fields : Fields). value_of fields (codes "names")) (sym letters) ∙ h.listed) k.listed

one_size : (given : Fields) (a b : ℕ) → HasSize given a → HasSize given b → a ≡ b
one_size given a b h k =
    let letters = one_record given (codes "alphabet") h.letters k.letters h.is_record k.is_record in
    let P : Fields → Type 0 = λ fields. HoldsCount fields (codes "size") a in
    one_count k.letters (codes "size") a b (subst P letters h.is_size) k.is_size

-- a text has one table
pub record IsSameTable (format other : Format) (size again count recount : ℕ) (places others : Places) : Type 0 where
  pub format_same : format ≡ other
  pub size_same : size ≡ again
  pub count_same : count ≡ recount
  pub places_same : places ≡ others

one_rows : (given : Fields) (format other : Format) (places others : Places) → ListsRows given format places → ListsRows given other others → (format ≡ other) × (places ≡ others)
one_rows given format other places others h k = (
  one_format format other (one_string k.table (codes "format") _ _ (subst N table h.named) k.named),
  one_list k.table (codes "transitions") places others (ap (λ (fields : Fields). value_of fields (codes "transitions")) (sym table) ∙ h.listed) k.listed,
)
  where
    table : h.table ≡ k.table
    table = one_record given (codes "table") h.table k.table h.is_record k.is_record

    N : Fields → Type 0
    N fields = HoldsString fields (codes "format") (format_name format)

pub one_table_of : (given : Fields) (format other : Format) (size again count recount : ℕ) (places others : Places) → HasTableOf given format size count places
    → HasTableOf given other again recount others → IsSameTable format other size again count recount places others
one_table_of given format other size again count recount places others h k =
    let rows = one_rows given format other places others h.listed k.listed in record {
      format_same = rows.0;
      size_same = one_size given size again h.sized k.sized;
      count_same = one_count_of_states given count recount h.counted k.counted;
      places_same = rows.1;
    }
