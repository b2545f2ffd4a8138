-- The left sides of the rules of a list, as rules come and go.
use Rattle.std.proofs.Common.{◌≡◌, ◌≢◌, ℕ, ◌-◌, List, [], ◌∷◌, ◌++◌, length, get_or, map, drop, take, slice_get, suc, Option, Some, option_map, refl, sym, ap, ◌∙◌, subst, arith}
use Rattle.std.proofs.lemmas.List.{append-nil, drop-map, map-append, map_push, take-map}
use Rattle.std.proofs.lemmas.List.Edits.{remove-append_right}
use Rattle.std.proofs.lemmas.Option.{slice_get-get_or, slice_get-map}
use Rattle.std.specs.List.{remove}
use Rattle.kb_word.specs.Words.{Pair}
use Rattle.kb_word.specs.WordOrders.{Below}
use Rattle.kb_word.specs.WordOrderLaws.{word_orders}
use Rattle.kb_word.specs.Rewriting.{AreDecreasing}
use Rattle.kb_word.specs.declared.word_order.WordOrder.{WordOrder}
use Rattle.kb_rules.proofs.Exists.{nothing_below_empty}
use Rattle.kb_index.specs.Lefts.{StandsAt, lefts_of}
use Rattle.kb_index.specs.Automata.{HaveLefts}

-- the left side of a rule
abbrev pub left_in : Pair → List ℕ
left_in rule = rule.0

-- the left side of a rule that decreases is not empty
pub left_some : (order : WordOrder) (rule : Pair) → Below order rule.1 rule.0 → rule.0 ≢ []
left_some order rule falls none =
    let P : List ℕ → Type 0 = λ w. Below order rule.1 w in nothing_below_empty (word_orders order) rule.1 (subst P none falls)

pub have_lefts : (order : WordOrder) (rules rules' : List Pair) → AreDecreasing (Below order) rules → rules' ≡ rules → HaveLefts rules'
have_lefts order rules rules' decreasing same =
    let each : HaveLefts rules = λ place within.
    let rule : Pair = get_or rules place ([], []) in
    left_some order rule (decreasing rule (place, slice_get-get_or rules place ([], []) within)) in
    let P : List Pair → Type 0 = λ rs. HaveLefts rs in
    subst P (sym same) each

-- the left side of a rule stands at its place
pub side_of : (rules : List Pair) (lefts : List (List ℕ)) → lefts ≡ lefts_of rules → (place : ℕ) (rule : Pair)
    → slice_get rules place ≡ Some rule → StandsAt lefts rule.0 place
side_of rules lefts are place rule is =
    ap (λ (ls : List (List ℕ)). slice_get ls place) are ∙ slice_get-map left_in rules place
    ∙ ap (λ (o : Option Pair). option_map left_in o) is

pub sides_removed : (rules : List Pair) (place : ℕ) → lefts_of (remove rules place) ≡ remove (lefts_of rules) place
sides_removed rules place =
    map-append left_in (take place rules) (drop (suc place) rules)
    ∙ ap (λ (ls : List (List ℕ)). ls ++ map left_in (drop (suc place) rules)) (sym (take-map left_in place rules))
    ∙ ap (λ (ls : List (List ℕ)). take place (map left_in rules) ++ ls) (sym (drop-map left_in (suc place) rules))

pub sides_replaced : (rules : List Pair) (place : ℕ) (rule : Pair)
    → lefts_of (remove rules place ++ rule ∷ []) ≡ remove (lefts_of rules) place ++ rule.0 ∷ []
sides_replaced rules place rule =
    map_push left_in (remove rules place) rule ∙ ap (λ (ls : List (List ℕ)). ls ++ rule.0 ∷ []) (sides_removed rules place)

-- where the last one goes again
pub last_removed : {A : Type 0} (list : List A) (x : A) (place : ℕ) → length list ≡ place → remove (list ++ x ∷ []) place ≡ list
last_removed {A} list x place last =
    let none : place - length list ≡ 0 = omega (arith, last) in
    remove-append_right list (x ∷ []) (length list) place refl (omega (arith, last))
    ∙ ap (λ (n : ℕ). list ++ remove (x ∷ []) n) none ∙ append-nil list
