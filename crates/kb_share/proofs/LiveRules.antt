-- The live rules of a sound state: each is that of a line, and decreases.
use Rattle.std.proofs.Common.{◌≡◌, ℕ, zero, suc, ◌+◌, ◌-◌, ◌<◌, ◌≤◌, List, [], ◌∷◌, ◌++◌, length, take, get_or, map, Option, Some, refl, sym, ◌∙◌, ap, subst, arith}
use Rattle.std.specs.Prelude.{slice_get, unwrap_or}
use Rattle.std.specs.Option.{option_map}
use Rattle.std.specs.List.{All}
use Rattle.std.proofs.lemmas.Option.{slice_get-map, slice_get_within, slice_get_read, slice_get-get_or, get_or_from_slice_get}
use Rattle.std.proofs.lemmas.List.{length-map, map_more, get_or_default}
use Rattle.kb_word.specs.Words.{Pair, OneOf}
use Rattle.kb_word.specs.Rewriting.{AreDecreasing}
use Rattle.kb_word.specs.WordOrders.{Below}
use Rattle.kb_word.specs.declared.word_order.WordOrder.{WordOrder}
use Rattle.kb_machine.specs.Lines.{numbered, rule_of, rules_of}
use Rattle.kb_machine.specs.declared.line.Line.{Line}
use Rattle.kb_machine.specs.States.{Problem, State, below, rule_numbered, live_rules, IsLiveRule}
use Rattle.kb_machine.specs.Course.{IsSound}

-- what stands at an index within the list
pub get_within : {X : Type 0} (xs : List X) (index : ℕ) → index < length xs → (x : X) × (slice_get xs index ≡ Some x)
get_within [] index low = absurd (let no : ⊥ = omega (arith, low) in no)
get_within (x ∷ xs) zero low = (x, refl)
get_within (x ∷ xs) (suc index) low = get_within xs index (omega (arith, low))

-- the rule with the number of a line is that of the line
pub rule_of_line : (lines : List Line) (index : ℕ) (line : Line) → slice_get lines index ≡ Some line
    → numbered (rules_of lines) (suc index) ≡ Some (rule_of line)
rule_of_line lines index line e = slice_get-map rule_of lines index ∙ ap (option_map rule_of) e

pub rule_numbered_of_line : (lines : List Line) (index : ℕ) (line : Line) → slice_get lines index ≡ Some line
    → rule_numbered lines (suc index) ≡ rule_of line
rule_numbered_of_line lines index line e =
    ap (λ (o : Option Pair). unwrap_or o ([], [])) (rule_of_line lines index line e)

some-injective : {X : Type 0} {x y : X} → Some x ≡ Some y → x ≡ y
some-injective e = cc

-- an element of a mapped list, by the element that it comes from
pub get_map : {X Y : Type 0} (f : X → Y) (xs : List X) (index : ℕ) (x : X) (y : Y) → slice_get xs index ≡ Some x
    → slice_get (map f xs) index ≡ Some y → y ≡ f x
get_map f xs index x y e e' = some-injective (sym e' ∙ slice_get-map f xs index ∙ ap (option_map f) e)

-- a number between 1 and the count of lines is that of a line
decreases_at : (problem : Problem) (state : State) (k : ℕ) → IsSound problem state → 0 < k → k ≤ length state.lines
    → below problem (rule_numbered state.lines k).1 (rule_numbered state.lines k).0
decreases_at problem state zero sound low high = absurd (let no : ⊥ = omega (arith, low) in no)
decreases_at problem state (suc index) sound low high =
    let at = get_within state.lines index (omega (arith, high)) in
    let P : Pair → Type 0 = λ rule. below problem rule.1 rule.0 in
    subst P (sym (rule_numbered_of_line state.lines index at.0 at.1)) (sound.justified.decreases index at.0 at.1)

-- the live rules decrease
pub live_rules_decrease : (problem : Problem) (state : State) → IsSound problem state
    → AreDecreasing (below problem) (live_rules state)
live_rules_decrease problem state sound rule is_rule =
    let index = is_rule.0 in
    let within = slice_get_within (live_rules state) index rule is_rule.1 in
    let live_within : index < length state.live = rw (← length-map state.live (rule_numbered state.lines)) within in
    let at = get_within state.live index live_within in
    let k = at.0 in
    let is : rule ≡ rule_numbered state.lines k = get_map (rule_numbered state.lines) state.live index k rule at.1 is_rule.1 in
    let range : (0 < get_or state.live index k) × (get_or state.live index k ≤ length state.lines) = sound.numbers index k live_within in
    let Q : ℕ → Type 0 = λ n. (0 < n) × (n ≤ length state.lines) in
    let mine : Q k = subst Q (get_or_from_slice_get state.live index k k at.1) range in
    let P : Pair → Type 0 = λ pair. below problem pair.1 pair.0 in
    subst P (sym is) (decreases_at problem state k sound mine.0 mine.1)

-- the rule of a line that is read by its number
rule_at_number : (lines : List Line) (k : ℕ) (line : Line) → 0 < k → k ≤ length lines → line ≡ get_or lines (k - 1) line
    → rule_numbered lines k ≡ rule_of line
rule_at_number lines zero line low high read = absurd (let no : ⊥ = omega (arith, low) in no)
rule_at_number lines (suc index) line low high read =
    let same : get_or lines (suc index - 1) line ≡ get_or lines index line = ap (λ n. get_or lines n line) (omega arith) in
    rule_numbered_of_line lines index line (slice_get_read lines (length lines) index line refl (omega (arith, high)) (read ∙ same))

-- the next rule is copied
pub rules_more : (lines : List Line) (numbers : List ℕ) (k : ℕ) (line : Line) (rule : Pair) (rules more : List Pair) → k < length numbers
    → All (λ n. (0 < n) × (n ≤ length lines)) numbers → line ≡ get_or lines (get_or numbers k 0 - 1) line → rule ≡ (line.left, line.right)
    → rules ≡ map (rule_numbered lines) (take k numbers) → more ≡ rules ++ rule ∷ []
    → more ≡ map (rule_numbered lines) (take (k + 1) numbers)
rules_more lines numbers k line rule rules more within range read is so_far e =
    let number = get_or numbers k 0 in
    let in_range = range k 0 within in
    let same : rule ≡ rule_numbered lines number = is ∙ sym (rule_at_number lines number line in_range.0 in_range.1 read) in
    e ∙ ap (λ (xs : List Pair). xs ++ rule ∷ []) so_far
    ∙ ap (λ (x : Pair). map (rule_numbered lines) (take k numbers) ++ x ∷ []) same
    ∙ sym (map_more (rule_numbered lines) numbers k 0 within)

-- the rule of a live line, which is read by its index
pub live_rule_at : (problem : Problem) (state : State) (index k : ℕ) (rule : Pair) → IsSound problem state
    → slice_get (live_rules state) index ≡ Some rule → k ≡ get_or state.live index k → numbered (rules_of state.lines) k ≡ Some rule
live_rule_at problem state index k rule sound is_rule read =
    let within = slice_get_within (live_rules state) index rule is_rule in
    let live_within : index < length state.live = rw (← length-map state.live (rule_numbered state.lines)) within in
    let at = slice_get_read state.live (length state.live) index k refl live_within read in
    let is : rule ≡ rule_numbered state.lines k = get_map (rule_numbered state.lines) state.live index k rule at is_rule in
    let range : (0 < get_or state.live index k) × (get_or state.live index k ≤ length state.lines) = sound.numbers index k live_within in
    let Q : ℕ → Type 0 = λ n. (0 < n) × (n ≤ length state.lines) in
    let mine : Q k = subst Q (sym read) range in
    numbered_is state.lines k mine.0 mine.1 ∙ ap (λ (r : Pair). Some r) (sym is)
  where
    numbered_is : (lines : List Line) (k : ℕ) → 0 < k → k ≤ length lines → numbered (rules_of lines) k ≡ Some (rule_numbered lines k)
    numbered_is lines zero low high = absurd (let no : ⊥ = omega (arith, low) in no)
    numbered_is lines (suc index) low high =
        let at = get_within lines index (omega (arith, high)) in
        rule_of_line lines index at.0 at.1 ∙ ap (λ (r : Pair). Some r) (sym (rule_numbered_of_line lines index at.0 at.1))

-- what is one of the list of live rules is a live rule
pub live_rule_is : (problem : Problem) (state : State) (rule : Pair) → IsSound problem state → OneOf (live_rules state) rule
    → IsLiveRule state rule
live_rule_is problem state rule sound one =
    let index = one.0 in
    let within = slice_get_within (live_rules state) index rule one.1 in
    let live_within : index < length state.live = rw (← length-map state.live (rule_numbered state.lines)) within in
    let k = get_or state.live index 0 in
    let read = get_or_default state.live index 0 k live_within in
    (k, (index, live_within, sym read), live_rule_at problem state index k rule sound one.1 read)

-- and the other way round
pub one_of_live : (problem : Problem) (state : State) → IsSound problem state → (rule : Pair) → IsLiveRule state rule
    → OneOf (live_rules state) rule
one_of_live problem state sound rule live =
    let k = live.0 in
    let index = live.1.0 in
    let within = live.1.1 in
    let at : slice_get state.live index ≡ Some k = slice_get-get_or state.live index k within ∙ ap (λ (n : ℕ). Some n) live.1.2 in
    let is : rule_numbered state.lines k ≡ rule = ap (λ (o : Option Pair). unwrap_or o ([], [])) live.2 in
    (index, slice_get-map (rule_numbered state.lines) state.live index ∙ ap (option_map (rule_numbered state.lines)) at ∙ ap (λ (r : Pair). Some r) is)

-- copies of the order and of the live rules
pub copies_decrease : (problem : Problem) (state : State) (order : WordOrder) (rules : List Pair) → IsSound problem state
    → order ≡ problem.order → rules ≡ live_rules state → AreDecreasing (Below order) rules
copies_decrease problem state order rules sound is_order is_rules =
    subst (λ (o : WordOrder). AreDecreasing (Below o) rules) (sym is_order)
    (subst (λ (r : List Pair). AreDecreasing (below problem) r) (sym is_rules) (live_rules_decrease problem state sound))
