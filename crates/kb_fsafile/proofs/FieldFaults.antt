-- Fields as the code reads them.
use Rattle.std.proofs.Common.{◌≡◌, ◌+◌, ◌-◌, ◌*◌, inl, inr, ℕ, List, Some, sym, ap, subst, ◌∙◌, arith}
use Rattle.kb_record.specs.Tree.{Value, record_value, Fields}
use Rattle.kb_record.specs.declared.tree.Field.{Field}
use Rattle.kb_record.specs.declared.tree.Value as code
use Rattle.kb_fields.specs.Fields.{fields_view, value_of}
use Rattle.kb_fsafile.specs.Holds.{HoldsRecord, IsPairSize}
use Rattle.kb_fsafile.specs.Standing.{IsAlphabetOf, IsBaseOf}
use Rattle.std.specs.Prelude.{codes}

-- the value of a field as it is looked at
pub value_seen : (owner : Fields) (name : List ℕ) (found seen : Value) → value_of owner name ≡ Some found → seen ≡ found → value_of owner name ≡ Some seen
value_seen owner name found seen is same = is ∙ ap Some (sym same)

-- a record's fields, taken as a slice
pub record_seen : (owner : Fields) (name : List ℕ) (found value : Value) (items seen : List (Field code.Value)) → value_of owner name ≡ Some found → value ≡ found
    → value ≡ record_value (fields_view items) → seen ≡ items → HoldsRecord owner name (fields_view seen)
record_seen owner name found value items seen is at holds same =
    is ∙ ap Some (sym at ∙ (holds ∙ ap (λ (fs : List (Field code.Value)). record_value (fields_view fs)) (sym same)))

pub base_of : (given letters base : Fields) → IsAlphabetOf given letters (codes "product") → HoldsRecord letters (codes "base") base → IsBaseOf given base
base_of given letters base is holds = record { letters = letters; is_product = is; is_record = holds }

one_less : (size pairs : ℕ) → size + 1 ≡ pairs → size ≡ pairs - 1
one_less size pairs e = omega arith

pub no_pair_size : (count n size : ℕ) → count ≡ n → (size ≡ (count + 1) * (count + 1) → ⊥) → (size ≡ (count + 1) * (count + 1) - 1 → ⊥) → IsPairSize n size → ⊥
no_pair_size count n size same all most right = go (subst P (sym same) right)
  where
    P : ℕ → Type 0
    P m = IsPairSize m size

    go : IsPairSize count size → ⊥
    go (inl without) = most (one_less size _ without)
    go (inr whole) = all whole
