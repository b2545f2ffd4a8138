-- Lines and their fields.
use Rattle.std.proofs.Common.{◌≡◌, ◌≢◌, ◌∙◌, ℕ, List, [], ◌∷◌, ◌++◌, refl, sym, ap, subst, arith}
use Rattle.std.specs.Prelude.{codes, Option, Some, None}
use Rattle.std.specs.List.{AllByRecursion, join_with_byte}
use Rattle.kb_machine.specs.declared.line.Line.{Line}
use Rattle.kb_proof.specs.Printed.{FieldTexts, field_texts, listed, text_of_fields, text_of_steps}
use Rattle.kb_proof.specs.Printable.{AreReadableNames, FitsLine, IsPrintableLine, IsShortening}
use Rattle.kb_proof.specs.Reading.{AllFrom, AreBehindSides, AreFields, AreTextsOf, HaveNoBlanks, HaveNoSteps, Reads, ReadsFields, parts}
use Rattle.kb_proof.specs.declared.log.Version.{Version}
use Rattle.kb_proof.specs.declared.log.Version.TheVariants.{One, Two}
use Rattle.kb_proof.proofs.Bytes.{from_weaker, from_append, from_join}
use Rattle.kb_proof.proofs.PartLemmas.{alone, first_part, parts_join, parts_some, join_parts, same_parts}
use Rattle.kb_proof.proofs.TextLemmas.{none_printed, origin_from, same_shortening, steps_from, word_from}

-- the fields have no byte up to the blank
record AllGraphic (texts : FieldTexts) : Type 0 where
  origin : AllFrom 33 texts.origin
  left : AllFrom 33 texts.left
  right : AllFrom 33 texts.right
  first : AllFrom 33 texts.first
  second : AllFrom 33 texts.second

graphic : (names : List (List ℕ)) (line : Line) → AreReadableNames names → FitsLine names line → AllGraphic (field_texts names line)
graphic names line are fits = record {
  origin = from_weaker 33 44 (field_texts names line).origin (omega arith) (origin_from line.origin fits.origin);
  left = from_weaker 33 42 (field_texts names line).left (omega arith) (word_from names line.left are fits.left);
  right = from_weaker 33 42 (field_texts names line).right (omega arith) (word_from names line.right are fits.right);
  first = from_weaker 33 44 (field_texts names line).first (omega arith) (steps_from line.first_steps.items fits.first_steps);
  second = from_weaker 33 44 (field_texts names line).second (omega arith) (steps_from line.second_steps.items fits.second_steps);
}

listed_from : (version : Version) (sign : List ℕ) (texts : FieldTexts) → AllFrom 33 sign → AllGraphic texts → AllByRecursion (AllFrom 33) (listed version sign texts)
listed_from One sign texts s h = (h.origin, (h.left, (s, (h.right, tt))))
listed_from Two sign texts s h = (h.origin, (h.left, (s, (h.right, ((omega arith, tt), (h.first, ((omega arith, tt), (h.second, tt))))))))

listed_parts : (version : Version) (sign : List ℕ) (texts : FieldTexts) → AllByRecursion (AllFrom 33) (listed version sign texts)
    → parts 32 (join_with_byte 32 (listed version sign texts)) ≡ listed version sign texts
listed_parts One sign texts h = parts_join 33 32 texts.origin (texts.left ∷ sign ∷ texts.right ∷ []) (omega arith) h
listed_parts Two sign texts h =
    parts_join 33 32 texts.origin (texts.left ∷ sign ∷ texts.right ∷ codes ":" ∷ texts.first ∷ codes ":" ∷ texts.second ∷ []) (omega arith) h

no_blanks : (texts : FieldTexts) → AllGraphic texts → HaveNoBlanks texts
no_blanks texts h = record {
  origin = alone 33 32 texts.origin (omega arith) h.origin;
  left = alone 33 32 texts.left (omega arith) h.left;
  right = alone 33 32 texts.right (omega arith) h.right;
  first = alone 33 32 texts.first (omega arith) h.first;
  second = alone 33 32 texts.second (omega arith) h.second;
}

no_steps : (version : Version) (names : List (List ℕ)) (line : Line) → IsPrintableLine version names line
    → HaveNoSteps version (field_texts names line).first (field_texts names line).second
no_steps One names line h = (ap text_of_steps h.printed_steps.0, ap text_of_steps h.printed_steps.1)
no_steps Two names line h = tt

-- the printed fields of a line are its fields
pub fields_printed : (version : Version) (names : List (List ℕ)) (sign bytes : List ℕ) (line : Line) → AreReadableNames names → AllFrom 33 sign
    → IsPrintableLine version names line → bytes ≡ text_of_fields version names sign line → AreFields version sign bytes (field_texts names line)
fields_printed version names sign bytes line are s h e =
    let all = graphic names line are h.fits in record {
      whole = ap (parts 32) e ∙ listed_parts version sign (field_texts names line) (listed_from version sign (field_texts names line) s all);
      no_blanks = no_blanks (field_texts names line) all;
      no_steps = no_steps version names line h;
    }

-- bytes have one list of fields
pub same_fields : (version : Version) (names : List (List ℕ)) (sign bytes : List ℕ) (texts : FieldTexts) (line : Line) → AreFields version sign bytes texts
    → AreFields version sign bytes (field_texts names line) → AreTextsOf names texts line
same_fields One names sign bytes texts line a b =
    let same = sym a.whole ∙ b.whole in
    let first : texts.first ≡ (field_texts names line).first = a.no_steps.0 ∙ sym b.no_steps.0 in
    let second : texts.second ≡ (field_texts names line).second = a.no_steps.1 ∙ sym b.no_steps.1 in
    record { origin = cc; left = cc; right = cc; first = first; second = second }
same_fields Two names sign bytes texts line a b =
    let same = sym a.whole ∙ b.whole in
    record { origin = cc; left = cc; right = cc; first = cc; second = cc }

listed_same : (version : Version) (names : List (List ℕ)) (sign : List ℕ) (texts : FieldTexts) (line : Line) → AreTextsOf names texts line
    → listed version sign texts ≡ listed version sign (field_texts names line)
listed_same One names sign texts line h =
    let a = h.origin in let b = h.left in let d = h.right in cc
listed_same Two names sign texts line h =
    let a = h.origin in let b = h.left in let d = h.right in let e = h.first in let f = h.second in cc

-- bytes are printed of the line whose texts their fields are
pub fields_read : (version : Version) (names : List (List ℕ)) (sign bytes : List ℕ) (texts : FieldTexts) (line : Line) → AreFields version sign bytes texts
    → AreTextsOf names texts line → bytes ≡ text_of_fields version names sign line
fields_read version names sign bytes texts line a h =
    sym (join_parts 32 bytes) ∙ ap (join_with_byte 32) (a.whole ∙ listed_same version names sign texts line h)

-- what stands behind the sides of a line
pub behind_sides : (version : Version) (sign bytes rest origin left between : List ℕ) (texts : FieldTexts)
    → parts 32 bytes ≡ origin ∷ left ∷ between ∷ parts 32 rest → AreFields version sign bytes texts
    → AreBehindSides version rest texts.right texts.first texts.second
behind_sides One sign bytes rest origin left between texts list h =
    let whole = h.whole in
    record { whole = cc; right_alone = h.no_blanks.right; first_alone = h.no_blanks.first; second_alone = h.no_blanks.second; no_steps = h.no_steps }
behind_sides Two sign bytes rest origin left between texts list h =
    let whole = h.whole in
    record { whole = cc; right_alone = h.no_blanks.right; first_alone = h.no_blanks.first; second_alone = h.no_blanks.second; no_steps = h.no_steps }

-- a line with the same texts as a printable one has no more steps than that has
pub steps_agree : (version : Version) (names : List (List ℕ)) (texts : FieldTexts) (line other : Line) → AreTextsOf names texts line → FitsLine names line
    → AreTextsOf names texts other → IsPrintableLine version names other → IsShortening line.origin → line.second_steps.items ≡ []
steps_agree One names texts line other a fits b h short =
    none_printed line.second_steps.items fits.second_steps (sym a.second ∙ (b.second ∙ ap text_of_steps h.printed_steps.1))
steps_agree Two names texts line other a fits b h short =
    let origin = same_shortening line.origin other.origin (sym a.origin ∙ b.origin) short in
    none_printed line.second_steps.items fits.second_steps (sym a.second ∙ (b.second ∙ ap text_of_steps (h.printed_steps origin)))

-- a line whose texts are the fields is printable
pub printable_read : (version : Version) (names : List (List ℕ)) (sign bytes : List ℕ) (texts : FieldTexts) (line : Line) → AreFields version sign bytes texts
    → AreTextsOf names texts line → FitsLine names line → (IsShortening line.origin → line.second_steps.items ≡ []) → IsPrintableLine version names line
printable_read One names sign bytes texts line a h fits few = record {
  fits = fits;
  printed_steps = (
    none_printed line.first_steps.items fits.first_steps (sym h.first ∙ a.no_steps.0),
    none_printed line.second_steps.items fits.second_steps (sym h.second ∙ a.no_steps.1),
  );
}
printable_read Two names sign bytes texts line a h fits few = record { fits = fits; printed_steps = few }

-- the bytes of a line

weaker_each : (xs : List (List ℕ)) → AllByRecursion (AllFrom 33) xs → AllByRecursion (AllFrom 32) xs
weaker_each [] h = tt
weaker_each (x ∷ xs) h = (from_weaker 32 33 x (omega arith) h.0, weaker_each xs h.1)

fields_from : (version : Version) (names : List (List ℕ)) (sign : List ℕ) (line : Line) → AreReadableNames names → FitsLine names line → AllFrom 33 sign
    → AllFrom 32 (text_of_fields version names sign line)
fields_from version names sign line are fits s =
    from_join 32 32 (listed version sign (field_texts names line)) (omega arith)
    (weaker_each (listed version sign (field_texts names line)) (listed_from version sign (field_texts names line) s (graphic names line are fits)))

-- behind the first field stand the others
pub behind_first : (version : Version) (sign first : List ℕ) (texts : FieldTexts)
    → join_with_byte 32 (first ∷ listed version sign texts) ≡ first ++ 32 ∷ join_with_byte 32 (listed version sign texts)
behind_first One sign first texts = refl
behind_first Two sign first texts = refl

-- the parts of a line's text between blanks
pub first_field : (version : Version) (names : List (List ℕ)) (sign first : List ℕ) (line : Line) → AllFrom 33 first
    → parts 32 (join_with_byte 32 (first ∷ listed version sign (field_texts names line))) ≡ first ∷ parts 32 (text_of_fields version names sign line)
first_field version names sign first line from =
    ap (parts 32) (behind_first version sign first (field_texts names line))
    ∙ first_part 33 32 first (text_of_fields version names sign line) (omega arith) from

-- the first line of what is printed
pub first_line : (version : Version) (names : List (List ℕ)) (sign first rest : List ℕ) (line : Line) → AreReadableNames names → FitsLine names line
    → AllFrom 33 sign → AllFrom 33 first
    → parts 10 (join_with_byte 32 (first ∷ listed version sign (field_texts names line)) ++ 10 ∷ rest)
    ≡ join_with_byte 32 (first ∷ listed version sign (field_texts names line)) ∷ parts 10 rest
first_line version names sign first rest line are fits s from =
    let all : AllFrom 32 (first ++ 32 ∷ text_of_fields version names sign line) =
    from_append 32 first (32 ∷ text_of_fields version names sign line) (from_weaker 32 33 first (omega arith) from)
    (omega arith, fields_from version names sign line are fits s) in
    let P : List ℕ → Type 0 = λ l. AllFrom 32 l in
    first_part 32 10 (join_with_byte 32 (first ∷ listed version sign (field_texts names line))) rest (omega arith)
    (subst P (sym (behind_first version sign first (field_texts names line))) all)

-- the bytes of a printed line, cut at the newline and at the first blank
pub record LineCut (version : Version) (names : List (List ℕ)) (sign first bytes : List ℕ) (line : Line) (rest : List ℕ) : Type 0 where
  pub text : List ℕ
  pub bytes_parts : parts 10 bytes ≡ text ∷ parts 10 rest
  pub text_parts : parts 32 text ≡ first ∷ parts 32 (text_of_fields version names sign line)

pub line_cut : (version : Version) (names : List (List ℕ)) (sign first bytes : List ℕ) (line : Line) (rest : List ℕ) → AreReadableNames names
    → FitsLine names line → AllFrom 33 sign → AllFrom 33 first → bytes ≡ join_with_byte 32 (first ∷ listed version sign (field_texts names line)) ++ 10 ∷ rest
    → LineCut version names sign first bytes line rest
line_cut version names sign first bytes line rest are fits s from e = record {
  text = join_with_byte 32 (first ∷ listed version sign (field_texts names line));
  bytes_parts = ap (parts 10) e ∙ first_line version names sign first rest line are fits s from;
  text_parts = first_field version names sign first line from;
}

pub no_newline : (version : Version) (names : List (List ℕ)) (sign first bytes : List ℕ) (line : Line) (rest : List ℕ)
    → LineCut version names sign first bytes line rest → parts 10 bytes ≢ bytes ∷ []
no_newline version names sign first bytes line rest cut none =
    let parts_of_bytes = cut.bytes_parts in
    let empty : parts 10 rest ≡ [] = cc in
    parts_some 10 rest empty

pub no_field : (version : Version) (names : List (List ℕ)) (sign first bytes text back : List ℕ) (line : Line) (rest : List ℕ)
    → LineCut version names sign first bytes line rest → parts 10 bytes ≡ text ∷ parts 10 back → parts 32 text ≢ text ∷ []
no_field version names sign first bytes text back line rest cut is none =
    let parts_of_bytes = cut.bytes_parts in
    let same : text ≡ cut.text = cc in
    let parts_of_text : parts 32 text ≡ first ∷ parts 32 (text_of_fields version names sign line) = ap (parts 32) same ∙ cut.text_parts in
    let empty : parts 32 (text_of_fields version names sign line) ≡ [] = cc in
    parts_some 32 (text_of_fields version names sign line) empty

pub same_line : (version : Version) (names : List (List ℕ)) (sign first bytes text back field fields : List ℕ) (line : Line) (rest : List ℕ)
    → LineCut version names sign first bytes line rest → parts 10 bytes ≡ text ∷ parts 10 back → parts 32 text ≡ field ∷ parts 32 fields
    → (field ≡ first) × (fields ≡ text_of_fields version names sign line)
same_line version names sign first bytes text back field fields line rest cut is one =
    let parts_of_bytes = cut.bytes_parts in
    let same : text ≡ cut.text = cc in
    let parts_of_text : parts 32 text ≡ first ∷ parts 32 (text_of_fields version names sign line) = ap (parts 32) same ∙ cut.text_parts in
    let others : parts 32 fields ≡ parts 32 (text_of_fields version names sign line) = cc in
    let head : field ≡ first = cc in
    (head, same_parts 32 fields (text_of_fields version names sign line) others)

-- bytes that are cut at a newline and a blank are a printed line
pub line_whole : (version : Version) (sign first bytes text back field fields : List ℕ) (texts : FieldTexts) → bytes ≡ text ++ 10 ∷ back → text ≡ field ++ 32 ∷ fields
    → field ≡ first → fields ≡ join_with_byte 32 (listed version sign texts) → bytes ≡ join_with_byte 32 (first ∷ listed version sign texts) ++ 10 ∷ back
line_whole version sign first bytes text back field fields texts a b d e =
    a ∙ ap (λ l. l ++ 10 ∷ back) (b ∙ (ap (λ l. l ++ 32 ∷ fields) d ∙ (ap (λ l. first ++ 32 ∷ l) e ∙ sym (behind_first version sign first texts))))

-- what was read, and what was not

pub reads_no : {T : Type 0} (text : T → List ℕ) (Fits : T → Type 0) (bytes : List ℕ) (found : Option T) → Reads text Fits bytes found → found ≡ None
    → (value : T) → Fits value → bytes ≢ text value
reads_no text Fits bytes None read e = read
reads_no text Fits bytes (Some x) read e = absurd cc

pub reads_some : {T : Type 0} (text : T → List ℕ) (Fits : T → Type 0) (bytes : List ℕ) (found : Option T) (value : T) → Reads text Fits bytes found
    → found ≡ Some value → (bytes ≡ text value) × Fits value
reads_some {T} text Fits bytes found value read e = let P : Option T → Type 0 = λ o. Reads text Fits bytes o in subst P e read

pub fields_no : (names : List (List ℕ)) (texts : FieldTexts) (found : Option Line) → ReadsFields names texts found → found ≡ None
    → (line : Line) → FitsLine names line → ¬ AreTextsOf names texts line
fields_no names texts None read e = read
fields_no names texts (Some x) read e = absurd cc

pub fields_some : (names : List (List ℕ)) (texts : FieldTexts) (found : Option Line) (line : Line) → ReadsFields names texts found → found ≡ Some line
    → AreTextsOf names texts line × FitsLine names line
fields_some names texts found line read e = let P : Option Line → Type 0 = λ o. ReadsFields names texts o in subst P e read
