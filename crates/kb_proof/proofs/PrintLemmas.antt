-- What is printed piece by piece.
use Rattle.std.proofs.Common.{◌≡◌, ◌∙◌, ℕ, ◌+◌, ◌<◌, ◌≤◌, List, [], ◌∷◌, ◌++◌, length, take, get_or, map, decimal, refl, sym, ap, append_assoc, arith}
use Rattle.std.proofs.lemmas.List.{take_more}
use Rattle.std.specs.List.{join_with_byte}
use Rattle.kb_machine.specs.declared.line.LogStep.{LogStep}
use Rattle.kb_machine.specs.declared.line.Line.{Line}
use Rattle.kb_proof.specs.Printed.{derivations_text, text_of_fields, text_of_step, text_of_line, text_of_lines}
use Rattle.kb_proof.specs.Printed.{field_texts}
use Rattle.kb_proof.specs.declared.log.Version.{Version}
use Rattle.kb_proof.specs.declared.log.Version.TheVariants.{One, Two}
use Rattle.kb_proof.proofs.LineLemmas.{behind_first}
use Rattle.std.proofs.lemmas.List.{length-take-le}
use Rattle.std.specs.Prelude.{codes}

join_more : {T : Type 0} (c : ℕ) (f : T → List ℕ) (x : T) (xs : List T) (y : T)
    → join_with_byte c (map f (x ∷ xs)) ++ c ∷ f y ≡ join_with_byte c (map f (x ∷ xs ++ y ∷ []))
join_more c f x [] y = refl
join_more c f x (z ∷ zs) y = append_assoc (f x) (c ∷ join_with_byte c (map f (z ∷ zs))) (c ∷ f y)
    ∙ ap (λ l. f x ++ c ∷ l) (join_more c f z zs y)

abbrev begun : LogStep → List LogStep → List ℕ
begun head steps = join_with_byte 44 (map text_of_step (head ∷ steps))

-- a comma and the next step
pub steps_more : (head : LogStep) (rest : List LogStep) (place : ℕ) (d : LogStep) (old comma printed out : List ℕ) → place < length rest
    → old ≡ out ++ join_with_byte 44 (map text_of_step (head ∷ take place rest)) → comma ≡ old ++ 44 ∷ []
    → printed ≡ comma ++ text_of_step (get_or rest place d) → printed ≡ out ++ join_with_byte 44 (map text_of_step (head ∷ take (place + 1) rest))
steps_more head rest place d old comma printed out within so_far mark one =
    let step = get_or rest place d in
    let text = begun head (take place rest) in
    let more : take (place + 1) rest ≡ take place rest ++ step ∷ [] = take_more rest place d within in
    one ∙ (ap (λ l. l ++ text_of_step step) (mark ∙ ap (λ l. l ++ 44 ∷ []) so_far)
    ∙ (append_assoc (out ++ text) (44 ∷ []) (text_of_step step)
    ∙ (append_assoc out text (44 ∷ text_of_step step)
    ∙ ap (λ l. out ++ l) (join_more 44 text_of_step head (take place rest) step ∙ ap (begun head) (sym more)))))

-- one more piece behind what was there
pub behind : (out so_far old new piece : List ℕ) → old ≡ out ++ so_far → new ≡ old ++ piece → new ≡ out ++ (so_far ++ piece)
behind out so_far old new piece e more = more ∙ (ap (λ l. l ++ piece) e ∙ append_assoc out so_far piece)

pub sides_text : (o l s r : List ℕ) → ((((((32 ∷ [] ++ o) ++ 32 ∷ []) ++ l) ++ 32 ∷ []) ++ s) ++ 32 ∷ []) ++ r
    ≡ 32 ∷ (o ++ 32 ∷ (l ++ 32 ∷ (s ++ 32 ∷ r)))
sides_text o l s r = simp append_assoc

pub derivations_behind : (o l s r f t : List ℕ)
    → 32 ∷ (o ++ 32 ∷ (l ++ 32 ∷ (s ++ 32 ∷ r))) ++ ((((32 ∷ 58 ∷ 32 ∷ []) ++ f) ++ (32 ∷ 58 ∷ 32 ∷ [])) ++ t)
    ≡ 32 ∷ (o ++ 32 ∷ (l ++ 32 ∷ (s ++ 32 ∷ (r ++ 32 ∷ 58 ∷ 32 ∷ (f ++ 32 ∷ 58 ∷ 32 ∷ t)))))
derivations_behind o l s r f t = simp append_assoc

-- one more line
pub lines_more : (version : Version) (names : List (List ℕ)) (k : ℕ) (lines : List Line) (line : Line)
    → text_of_lines version names k (lines ++ line ∷ []) ≡ text_of_lines version names k lines ++ (text_of_line version names (k + length lines) line ++ 10 ∷ [])
lines_more version names k [] line =
    let same : k ≡ k + length {A = Line} [] = omega arith in
    ap (λ m. text_of_line version names m line ++ 10 ∷ []) same
lines_more version names k (x ∷ lines) line =
    let same : k + 1 + length lines ≡ k + length (x ∷ lines) = omega arith in
    let rest = lines_more version names (k + 1) lines line ∙ ap (λ m. text_of_lines version names (k + 1) lines ++ (text_of_line version names m line ++ 10 ∷ [])) same in
    ap (λ l. text_of_line version names k x ++ 10 ∷ l) rest
    ∙ sym (append_assoc (text_of_line version names k x) (10 ∷ text_of_lines version names (k + 1) lines) (text_of_line version names (k + length (x ∷ lines)) line ++ 10 ∷ []))

shuffle : (t d f e : List ℕ) → ((t ++ d) ++ f) ++ e ≡ t ++ ((d ++ f) ++ e)
shuffle t d f e = simp append_assoc

-- the next line with its newline
pub line_printed : (version : Version) (names : List (List ℕ)) (lines : List Line) (index : ℕ) (line : Line) (old number fields new out : List ℕ)
    → index < length lines → line ≡ get_or lines index line → old ≡ out ++ text_of_lines version names 1 (take index lines)
    → number ≡ old ++ decimal (index + 1) → fields ≡ number ++ 32 ∷ text_of_fields version names (codes "->") line → new ≡ fields ++ 10 ∷ []
    → new ≡ out ++ text_of_lines version names 1 (take (index + 1) lines)
line_printed version names lines index line old number fields new out within is so_far one two three =
    let text = text_of_lines version names 1 (take index lines) in
    let some : index ≤ length lines = omega arith in
    let count : 1 + length (take index lines) ≡ index + 1 = omega (arith, length-take-le index lines some) in
    let pieces : new ≡ out ++ (((text ++ decimal (index + 1)) ++ 32 ∷ text_of_fields version names (codes "->") line) ++ 10 ∷ []) =
    behind out ((text ++ decimal (index + 1)) ++ 32 ∷ text_of_fields version names (codes "->") line) fields new (10 ∷ [])
    (behind out (text ++ decimal (index + 1)) number fields (32 ∷ text_of_fields version names (codes "->") line)
    (behind out text old number (decimal (index + 1)) so_far one) two) three in
    let more : take (index + 1) lines ≡ take index lines ++ line ∷ [] = take_more lines index line within ∙ ap (λ x. take index lines ++ x ∷ []) (sym is) in
    let joined : text_of_lines version names 1 (take (index + 1) lines) ≡ text ++ (text_of_line version names (index + 1) line ++ 10 ∷ []) =
    ap (text_of_lines version names 1) more ∙ (lines_more version names 1 (take index lines) line
    ∙ ap (λ k. text ++ (text_of_line version names k line ++ 10 ∷ [])) count) in
    pieces ∙ ap (λ l. out ++ l) (shuffle text (decimal (index + 1)) (32 ∷ text_of_fields version names (codes "->") line) (10 ∷ [])
    ∙ (ap (λ l. text ++ (l ++ 10 ∷ [])) (sym (behind_first version (codes "->") (decimal (index + 1)) (field_texts names line))) ∙ sym joined))

-- the derivations behind the sides
pub fields_two : (names : List (List ℕ)) (sign : List ℕ) (line : Line) (out sides new : List ℕ) → sides ≡ out ++ 32 ∷ text_of_fields One names sign line
    → new ≡ sides ++ derivations_text line.first_steps.items line.second_steps.items → new ≡ out ++ 32 ∷ text_of_fields Two names sign line
fields_two names sign line out sides new one two =
    let texts = field_texts names line in
    behind out (32 ∷ text_of_fields One names sign line) sides new (derivations_text line.first_steps.items line.second_steps.items) one two
    ∙ ap (λ l. out ++ l) (derivations_behind texts.origin texts.left sign texts.right texts.first texts.second)
