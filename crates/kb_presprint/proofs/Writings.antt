-- The text of a presentation, piece by piece.
use Rattle.std.proofs.Common.{◌≡◌, ◌≢◌, ℕ, true, false, List, [], ◌∷◌, ◌++◌, map, pos, Option, Some, None, refl, sym, ap, ◌∙◌, append_assoc, append-nil}
use Rattle.std.specs.Prelude.{codes}
use Rattle.std.specs.List.{join_with_byte}
use Rattle.kb_word.specs.Words.{Pair}
use Rattle.kb_word.specs.Printed.{letter_name, text_of_word}
use Rattle.kb_word.specs.declared.word_order.WordOrder.{WordOrder}
use Rattle.kb_word.specs.declared.word_order.WordOrder.TheVariants as orders
use Rattle.kb_record.specs.Tree.{Value, number_value, string_value, list_value, Fields, no_fields, field, place}
use Rattle.kb_record.specs.View.{places_of}
use Rattle.kb_layout.specs.Layout.{word_text, more_factors_text, line_of, line_of_more_places, are_lists, is_table, text_of_value, printed}
use Rattle.kb_layout.specs.Printing.{pieces, list_of}
use Rattle.kb_layout.proofs.PrintedPieces.{no_table}
use Rattle.kb_fields.specs.Fields.{bare_name, list_of_numbers}
use Rattle.kb_layout.proofs.WrittenTexts.{joined, name_line, record_lines}
use Rattle.kb_presfile.specs.Kinds.{equation_value, list_of_places, list_of_equations}
use Rattle.kb_presprint.specs.Printed.{letter_factors, word_factors, side_factors, rules_value, inverse_names, inverses_value, order_name, weights_value, with_weights}
use Rattle.kb_presprint.specs.Writing.{inverse_text, weight_line}

-- ---- words and rules

letters_text : (names : List (List ℕ)) (x : ℕ) (w : List ℕ)
    → word_text (letter_factors names (x ∷ w)) ≡ join_with_byte 42 (map (letter_name names) (x ∷ w))
letters_text names x [] = append-nil (letter_name names x ++ []) ∙ append-nil (letter_name names x)
letters_text names x (y ∷ w) =
    ap (λ t. t ++ more_factors_text (letter_factors names (y ∷ w))) (append-nil (letter_name names x))
    ∙ ap (λ t. letter_name names x ++ (codes "*" ++ t)) (letters_text names y w)

pub word_line : (names : List (List ℕ)) (w : List ℕ) → word_text (word_factors names w) ≡ text_of_word names w
word_line names [] = refl
word_line names (x ∷ w) = letters_text names x w

-- a rule on its way, piece by piece
abbrev pub rule_texts : List (List ℕ) → Pair → List (List ℕ)
rule_texts names rule = codes "[" ∷ text_of_word names rule.0 ∷ codes "," ∷ text_of_word names rule.1 ∷ codes "]" ∷ []

pub rule_line : (names : List (List ℕ)) (rule : Pair) → joined (rule_texts names rule) ≡ line_of (equation_value (side_factors names rule))
rule_line names rule =
    let left = word_text (word_factors names rule.0) in
    let right = word_text (word_factors names rule.1) in
    ap (λ t. codes "[" ++ (t ++ (codes "," ++ (text_of_word names rule.1 ++ codes "]")))) (sym (word_line names rule.0))
    ∙ ap (λ t. codes "[" ++ (left ++ (codes "," ++ (t ++ codes "]")))) (sym (word_line names rule.1))
    ∙ ap (λ t. codes "[" ++ (left ++ (codes "," ++ (t ++ codes "]")))) (sym (append-nil right))
    ∙ ap (λ t. codes "[" ++ t) (sym (append_assoc left (codes "," ++ (right ++ [])) (codes "]")))

-- a rule as a place of a list
abbrev pub rule_place : List (List ℕ) → Pair → Option Value
rule_place names rule = Some (equation_value (side_factors names rule))

rules_places : (names : List (List ℕ)) (rules : List Pair)
    → list_of_equations (map (side_factors names) rules) ≡ places_of (map (rule_place names) rules)
rules_places names [] = refl
rules_places names (rule ∷ rules) = ap (place (equation_value (side_factors names rule))) (rules_places names rules)

pub rules_listed : (names : List (List ℕ)) (rules : List Pair) → list_of (rule_place names) rules ≡ rules_value names rules
rules_listed names rules = ap list_value (sym (rules_places names rules))

rules_are_lists : (names : List (List ℕ)) (rules : List Pair) → are_lists (places_of (map (rule_place names) rules)) ≡ true
rules_are_lists names [] = refl
rules_are_lists names (rule ∷ rules) = rules_are_lists names rules

pub rules_are_table : (names : List (List ℕ)) (rules : List Pair) → rules ≢ [] → is_table (places_of (map (rule_place names) rules)) ≡ true
rules_are_table names [] some = absurd (some refl)
rules_are_table names (rule ∷ rules) some = rules_are_lists names rules

pub no_rules : (names : List (List ℕ)) (rules : List Pair) → rules ≡ [] → codes "[]" ≡ text_of_value 1 (rules_value names rules)
no_rules names rules none = ap (λ rs. text_of_value 1 (rules_value names rs)) (sym none)

-- ---- weights

-- a weight as a place of a list
abbrev pub weight_place : ℕ → Option Value
weight_place weight = Some (number_value (pos weight))

weights_places : (weights : List ℕ) → list_of_numbers (map pos weights) ≡ places_of (map weight_place weights)
weights_places [] = refl
weights_places (weight ∷ weights) = ap (place (number_value (pos weight))) (weights_places weights)

weights_no_table : (weights : List ℕ) → is_table (places_of (map weight_place weights)) ≡ false
weights_no_table [] = refl
weights_no_table (weight ∷ weights) = refl

pub weights_line : (weights : List ℕ) → line_of (list_of weight_place weights) ≡ text_of_value 1 (weights_value weights)
weights_line weights =
    sym (no_table 1 weight_place weights (weights_no_table weights))
    ∙ ap (λ ps. text_of_value 1 (list_value ps)) (sym (weights_places weights))

-- ---- inverses

more_inverse_pieces : (names : List (List ℕ)) (inverses : List (Option ℕ))
    → line_of_more_places (list_of_places (inverse_names names inverses)) ≡ pieces (inverse_text names) (codes ",") (codes ",") inverses
more_inverse_pieces names [] = refl
more_inverse_pieces names (None ∷ inverses) = ap (λ t. codes "," ++ t) (more_inverse_pieces names inverses)
more_inverse_pieces names (Some x ∷ inverses) =
    ap (λ t. codes "," ++ (t ++ line_of_more_places (list_of_places (inverse_names names inverses)))) (name_line (letter_name names x))
    ∙ ap (λ t. codes "," ++ (letter_name names x ++ t)) (more_inverse_pieces names inverses)

inverse_pieces : (names : List (List ℕ)) (inverses : List (Option ℕ))
    → codes "[" ++ (pieces (inverse_text names) [] (codes ",") inverses ++ codes "]") ≡ line_of (list_value (list_of_places (inverse_names names inverses)))
inverse_pieces names [] = refl
inverse_pieces names (None ∷ inverses) = ap (λ t. codes "[" ++ (t ++ codes "]")) (sym (more_inverse_pieces names inverses))
inverse_pieces names (Some x ∷ inverses) =
    ap (λ t. codes "[" ++ ((letter_name names x ++ t) ++ codes "]")) (sym (more_inverse_pieces names inverses))
    ∙ ap (λ t. codes "[" ++ ((t ++ line_of_more_places (list_of_places (inverse_names names inverses))) ++ codes "]")) (sym (name_line (letter_name names x)))

-- the text is that of the places also where one empty place stands for none; names and empty places are no table
places_line : (names : List (List ℕ)) (inverses : List (Option ℕ))
    → line_of (list_value (list_of_places (inverse_names names inverses))) ≡ text_of_value 1 (inverses_value names inverses)
places_line names [] = refl
places_line names (None ∷ []) = refl
places_line names (None ∷ (inverse ∷ inverses)) = refl
places_line names (Some x ∷ inverses) = refl

pub inverses_line : (names : List (List ℕ)) (inverses : List (Option ℕ))
    → codes "[" ++ (pieces (inverse_text names) [] (codes ",") inverses ++ codes "]") ≡ text_of_value 1 (inverses_value names inverses)
inverses_line names inverses = inverse_pieces names inverses ∙ places_line names inverses

-- ---- the whole

abbrev pub whole_texts : List ℕ → WordOrder → Value → Value → Value → List (List ℕ)
whole_texts truth order names inverses equations =
    codes "_RWS := rec(\n  isRWS := true,\n  isConfluent := " ∷ truth ∷ codes ",\n  ordering := \"" ∷ order_name order
    ∷ codes "\",\n  generatorOrder := " ∷ text_of_value 1 names ∷ weight_line order ∷ codes ",\n  inverses := " ∷ text_of_value 1 inverses
    ∷ codes ",\n  equations := " ∷ text_of_value 1 equations ∷ codes "\n);\n" ∷ []

abbrev whole_fields : List ℕ → WordOrder → Value → Value → Value → Fields
whole_fields truth order names inverses equations =
    field (codes "isRWS") (bare_name (codes "true"))
    (field (codes "isConfluent") (bare_name truth)
    (field (codes "ordering") (string_value (order_name order))
    (field (codes "generatorOrder") names
    (with_weights order
    (field (codes "inverses") inverses
    (field (codes "equations") equations no_fields))))))

-- what stands behind the truth value
abbrev behind_truth : WordOrder → Value → Value → Value → List ℕ
behind_truth order names inverses equations =
    codes ",\n  ordering := \"" ++ (order_name order ++ (codes "\",\n  generatorOrder := " ++ (text_of_value 1 names ++ (weight_line order
    ++ (codes ",\n  inverses := " ++ (text_of_value 1 inverses ++ (codes ",\n  equations := " ++ (text_of_value 1 equations ++ codes "\n);\n"))))))))

truth_line : (truth : List ℕ) (order : WordOrder) (names inverses equations : Value)
    → joined (whole_texts truth order names inverses equations)
    ≡ codes "_RWS := rec(\n  isRWS := true,\n  isConfluent := " ++ (line_of (bare_name truth) ++ behind_truth order names inverses equations)
truth_line truth order names inverses equations =
    ap (λ t. codes "_RWS := rec(\n  isRWS := true,\n  isConfluent := " ++ (t ++ behind_truth order names inverses equations)) (sym (name_line truth))

fields_lines : (truth : List ℕ) (order : WordOrder) (names inverses equations : Value)
    → codes "_RWS := rec(\n  isRWS := true,\n  isConfluent := " ++ (line_of (bare_name truth) ++ behind_truth order names inverses equations)
    ≡ printed (record { title = codes "_RWS"; fields = whole_fields truth order names inverses equations })
fields_lines truth orders.ShortLex names inverses equations =
    sym (ap (λ t. codes "_RWS := " ++ t) (record_lines 0 (whole_fields truth orders.ShortLex names inverses equations) (codes ";\n")))
fields_lines truth (orders.WtLex weights) names inverses equations =
    sym (ap (λ t. codes "_RWS := " ++ t) (record_lines 0 (whole_fields truth (orders.WtLex weights) names inverses equations) (codes ";\n")))

pub whole_text : (truth : List ℕ) (order : WordOrder) (names inverses equations : Value)
    → joined (whole_texts truth order names inverses equations)
    ≡ printed (record {
      title = codes "_RWS";
      fields =
          field (codes "isRWS") (bare_name (codes "true"))
          (field (codes "isConfluent") (bare_name truth)
          (field (codes "ordering") (string_value (order_name order))
          (field (codes "generatorOrder") names
          (with_weights order
          (field (codes "inverses") inverses
          (field (codes "equations") equations no_fields))))));
    })
whole_text truth order names inverses equations =
    truth_line truth order names inverses equations ∙ fields_lines truth order names inverses equations
