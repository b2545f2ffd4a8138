use Rattle.std.proofs.Common.{◌∙◌, ◌++◌, ◌∷◌, [], ap}
use Rattle.kb_word.specs.Printed.{text_of_word}
use Rattle.kb_proof.specs.Printed.{text_of_origin}
use Rattle.kb_proof.proofs.PrintLemmas.{behind, sides_text}
use Rattle.kb_proof.proofs.printing.print_sides.Goals as goal

pub returns : goal.returns
returns c =
    let out = c.args.out.now.items in
    let o = text_of_origin c.args.line.now.origin in
    let l = text_of_word c.args.names.now c.args.line.now.left in
    let s = c.args.sign.now in
    let r = text_of_word c.args.names.now c.args.line.now.right in
    let a1 = c.in_ok-push.ensures.items in
    let a2 = behind out (32 ∷ []) _ _ o a1 c.in_ok-print_origin.ensures in
    let a3 = behind out (32 ∷ [] ++ o) _ _ (32 ∷ []) a2 c.in_ok-push-2.ensures.items in
    let a4 = behind out ((32 ∷ [] ++ o) ++ 32 ∷ []) _ _ l a3 c.in_ok-print_word.ensures.printed in
    let a5 = behind out (((32 ∷ [] ++ o) ++ 32 ∷ []) ++ l) _ _ (32 ∷ []) a4 c.in_ok-push-3.ensures.items in
    let a6 = behind out ((((32 ∷ [] ++ o) ++ 32 ∷ []) ++ l) ++ 32 ∷ []) _ _ s a5 c.in_ok-extend_from_slice.ensures.items in
    let a7 = behind out (((((32 ∷ [] ++ o) ++ 32 ∷ []) ++ l) ++ 32 ∷ []) ++ s) _ _ (32 ∷ []) a6 c.in_ok-push-4.ensures.items in
    let a8 = behind out ((((((32 ∷ [] ++ o) ++ 32 ∷ []) ++ l) ++ 32 ∷ []) ++ s) ++ 32 ∷ []) _ _ r a7 c.in_ok-print_word-2.ensures.printed in
    a8 ∙ ap (λ x. out ++ x) (sides_text o l s r)
