-- Equality of rules, as `==` decides it.
use Rattle.std.specs.Prelude.{Bool, nat_eq}
use Rattle.std.specs.Cmp.{IsEquivalence, and_equiv, on_equiv}
use Rattle.std.specs.Cmp.Lexicographic.{pointwise, nat_list_eq_equiv}
use Rattle.std.specs.Ordering.{eq_of_both, on}
use Rattle.kb_word.specs.Words.{Pair}

-- the left sides are the same word, and so are the right sides
abbrev pub same_sides : Pair → Pair → Bool
same_sides = eq_of_both (on (λ (p : Pair). p.0) (pointwise nat_eq))
    (on (λ (p : Pair). p.1) (pointwise nat_eq))

pub same_sides_equiv : IsEquivalence same_sides
same_sides_equiv =
    and_equiv (on_equiv (λ (p : Pair). p.0) nat_list_eq_equiv)
    (on_equiv (λ (p : Pair). p.1) nat_list_eq_equiv)
