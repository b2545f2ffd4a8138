-- Lists by index and by number: fronts, and the rules of lines.
use Rattle.std.proofs.Common.{◌≡◌, ℕ, zero, suc, ◌+◌, ◌<◌, ◌≤◌, Bor, Option, List, [], ◌∷◌, ◌++◌, length, get_or, take, None, Some, refl, sym, ap, ◌∙◌, arith}
use Rattle.std.specs.Prelude.{slice_get, IfSome, IfNone}
use Rattle.std.specs.Option.{option_map, MatchOption}
use Rattle.std.specs.List.{HoldsAt}
use Rattle.std.proofs.lemmas.List.{take_more, take-map}
use Rattle.std.proofs.lemmas.Option.{slice_get-map, slice_get-get_or, slice_get_read, slice_get_past, same_Some}
use Rattle.kb_machine.specs.Lines.{numbered, rule_of, rules_of}
use Rattle.kb_machine.specs.declared.line.Line.{Line}

-- what stands at an index stands there in a front that reaches beyond
pub slice_get_take : {X : Type 0} (xs : List X) (n k : ℕ) (x : X) → k < n → slice_get xs k ≡ Some x
    → slice_get (take n xs) k ≡ Some x
slice_get_take [] n k x within e = absurd (cc e)
slice_get_take (y ∷ xs) zero k x within e = absurd (omega arith)
slice_get_take (y ∷ xs) (suc n) zero x within e = e
slice_get_take (y ∷ xs) (suc n) (suc k) x within e = slice_get_take xs n k x (omega arith) e

-- a front of a front
pub take_take : {X : Type 0} (xs : List X) (k n : ℕ) → k ≤ n → take k (take n xs) ≡ take k xs
take_take xs zero n within = refl
take_take [] (suc k) zero within = absurd (omega arith)
take_take [] (suc k) (suc n) within = refl
take_take (x ∷ xs) (suc k) zero within = absurd (omega arith)
take_take (x ∷ xs) (suc k) (suc n) within = ap (λ rest. x ∷ rest) (take_take xs k n (omega arith))

-- the front with what stands behind it
pub take_with : {X : Type 0} (xs : List X) (k : ℕ) (x : X) → k < length xs → slice_get xs k ≡ Some x
    → take (k + 1) xs ≡ take k xs ++ x ∷ []
take_with xs k x within e =
    let same : get_or xs k x ≡ x = same_Some (get_or xs k x) x (sym (slice_get-get_or xs k x within) ∙ e) in
    take_more xs k x within ∙ ap (λ y. take k xs ++ y ∷ []) same

-- the rules of a front
pub rules_take : (lines : List Line) (n : ℕ) → take n (rules_of lines) ≡ rules_of (take n lines)
rules_take lines n = take-map rule_of n lines

-- what has a number stands at the index before
pub numbered_at : {X : Type 0} (xs : List X) (k index : ℕ) → k ≡ index + 1 → numbered xs k ≡ slice_get xs index
numbered_at xs zero index e = absurd (omega arith)
numbered_at xs (suc k) index e = let same : k ≡ index = omega arith in ap (slice_get xs) same

-- the rule of the line at an index
pub rule_at : (lines : List Line) (index : ℕ) (line : Line) → slice_get lines index ≡ Some line
    → slice_get (rules_of lines) index ≡ Some (rule_of line)
rule_at lines index line e = slice_get-map rule_of lines index ∙ ap (option_map rule_of) e

-- what `get` answers of the index before a number
pub got_some : {X : Type 0} (xs : List X) (k index : ℕ) (found : Option (Bor X)) → k ≡ index + 1
    → MatchOption found (length xs ≤ index) (λ x. (index < length xs) × HoldsAt (λ y. x.now ≡ y) xs index)
    → IfSome found (λ x. numbered xs k ≡ Some x.now)
got_some xs k index (Some x) is reads = numbered_at xs k index is ∙ slice_get_read xs (length xs) index x.now refl reads.0 (reads.1 x.now)
got_some xs k index None is reads = tt

pub got_none : {X : Type 0} (xs : List X) (k index : ℕ) (found : Option (Bor X)) → k ≡ index + 1
    → MatchOption found (length xs ≤ index) (λ x. (index < length xs) × HoldsAt (λ y. x.now ≡ y) xs index)
    → IfNone found (numbered xs k ≡ None)
got_none xs k index (Some x) is reads = tt
got_none xs k index None is reads = numbered_at xs k index is ∙ slice_get_past xs index reads

-- a line's rule has the line's number
pub numbered_rules : (lines : List Line) (k : ℕ) → numbered (rules_of lines) k ≡ option_map rule_of (numbered lines k)
numbered_rules lines zero = refl
numbered_rules lines (suc index) = slice_get-map rule_of lines index

pub rule_some : (lines : List Line) (k : ℕ) (found : Option (Bor Line)) → IfSome found (λ line. numbered lines k ≡ Some line.now)
    → IfSome found (λ line. numbered (rules_of lines) k ≡ Some (rule_of line.now))
rule_some lines k (Some line) is = numbered_rules lines k ∙ ap (option_map rule_of) is
rule_some lines k None is = tt

pub rule_none : (lines : List Line) (k : ℕ) (found : Option (Bor Line)) → IfNone found (numbered lines k ≡ None)
    → IfNone found (numbered (rules_of lines) k ≡ None)
rule_none lines k (Some line) is = tt
rule_none lines k None is = numbered_rules lines k ∙ ap (option_map rule_of) is
