-- The parts of a value nest no deeper than it does.
use Rattle.std.proofs.Common.{◌≡◌, ℕ, zero, suc, ◌≤◌, List, [], ◌∷◌, Option, Some, None, slice_get, ap, arith}
use Rattle.kb_record.specs.Tree.{Value as ValueTree}
use Rattle.kb_record.specs.Nesting.{value_nesting, fields_nesting, places_nesting}
use Rattle.kb_record.specs.View.{field_view, fields_view, places_of}
use Rattle.kb_record.specs.declared.tree.Field.{Field}
use Rattle.kb_record.specs.declared.tree.Value.{Value}
use Rattle.kb_record.proofs.ValueParts.{place_nesting}

same_field : {f g : Field Value} → Some f ≡ Some g → f ≡ g
same_field e = cc

pub field_nested : (fs : List (Field Value)) (k : ℕ) (f : Field Value) → slice_get fs k ≡ Some f → value_nesting (field_view f).1 ≤ fields_nesting (fields_view fs)
field_nested [] k f e = cc
field_nested (g ∷ fs) zero f e = let same = ap (λ h. value_nesting (field_view h).1) (same_field e) in omega (arith, same)
field_nested (g ∷ fs) (suc k) f e = let inside = field_nested fs k f e in omega (arith, inside)

same_place : {p q : Option ValueTree} → Some p ≡ Some q → p ≡ q
same_place e = cc

first_nested : (p : Option ValueTree) (ps : List (Option ValueTree)) → place_nesting p ≤ places_nesting (places_of (p ∷ ps))
first_nested None ps = omega arith
first_nested (Some v) ps = omega arith

others_nested : (p : Option ValueTree) (ps : List (Option ValueTree)) → places_nesting (places_of ps) ≤ places_nesting (places_of (p ∷ ps))
others_nested None ps = omega arith
others_nested (Some v) ps = omega arith

pub place_nested : (ps : List (Option ValueTree)) (k : ℕ) (p : Option ValueTree) → slice_get ps k ≡ Some p → place_nesting p ≤ places_nesting (places_of ps)
place_nested [] k p e = cc
place_nested (q ∷ ps) zero p e = let same = ap place_nesting (same_place e) in let here = first_nested q ps in omega (arith, same, here)
place_nested (q ∷ ps) (suc k) p e = let inside = place_nested ps k p e in let others = others_nested q ps in omega (arith, inside, others)
