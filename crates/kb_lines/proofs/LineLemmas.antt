-- Lines behind lines, and what they give.
use Rattle.std.proofs.Common.{◌≡◌, ℕ, List, [], ◌∷◌, ◌++◌, refl, sym, ◌∙◌, ap, append_assoc, append-nil}
use Rattle.std.specs.List.{AllByRecursion}
use Rattle.kb_io.specs.Bytes.{newline}
use Rattle.kb_word.specs.Presentations.{PresentationParts}
use Rattle.kb_lines.specs.WordLines.{ended, LineGives, LinesGive}

-- a property of each element of two lists
pub all-append : {X : Type 0} (P : X → Type 0) (xs ys : List X) → AllByRecursion P xs → AllByRecursion P ys → AllByRecursion P (xs ++ ys)
all-append P [] ys one other = other
all-append P (x ∷ xs) ys one other = (one.0, all-append P xs ys one.1 other)

-- the lines of two lists
pub ended-append : (lines others : List (List ℕ)) → ended (lines ++ others) ≡ ended lines ++ ended others
ended-append [] others = refl
ended-append (first ∷ lines) others =
    ap (λ rest. first ++ newline ∷ rest) (ended-append lines others) ∙ sym (append_assoc first (newline ∷ ended lines) (ended others))

-- one more line, and what is behind it
pub ended-next : (lines : List (List ℕ)) (line behind : List ℕ)
    → ended lines ++ (line ++ newline ∷ behind) ≡ ended (lines ++ line ∷ []) ++ behind
ended-next [] line behind = sym (append_assoc line (newline ∷ []) behind)
ended-next (first ∷ lines) line behind =
    append_assoc first (newline ∷ ended lines) (line ++ newline ∷ behind)
    ∙ ap (λ rest. first ++ newline ∷ rest) (ended-next lines line behind)
    ∙ sym (append_assoc first (newline ∷ ended (lines ++ line ∷ [])) behind)

-- what the lines of two lists give
pub gives-append : (parts : PresentationParts) (Answers : List ℕ → List ℕ → Type 0) (lines others : List (List ℕ)) (given more : List ℕ)
    → LinesGive parts Answers lines given → LinesGive parts Answers others more → LinesGive parts Answers (lines ++ others) (given ++ more)
gives-append parts Answers [] others given more none gives = rw none gives
gives-append parts Answers (line ∷ lines) others given more (one, rest, first_gives, rest_gives, whole) gives = (
  one,
  rest ++ more,
  first_gives,
  gives-append parts Answers lines others rest more rest_gives gives,
  ap (λ g. g ++ more) whole ∙ append_assoc one rest more,
)

-- what one line more gives
pub gives-next : (parts : PresentationParts) (Answers : List ℕ → List ℕ → Type 0) (lines : List (List ℕ)) (line given here : List ℕ)
    → LinesGive parts Answers lines given → LineGives parts Answers line here
    → LinesGive parts Answers (lines ++ line ∷ []) (given ++ here)
gives-next parts Answers lines line given here gives line_gives =
    gives-append parts Answers lines (line ∷ []) given here gives (here, [], line_gives, refl, sym (append-nil here))
