-- The line of a certificate.
use Rattle.std.specs.Prelude.{ℕ, List, [], ◌∷◌, ◌++◌, codes, decimal}
use Rattle.kb_io.specs.Bytes.{newline}
use Rattle.kb_word.specs.Printed.{letter_name, text_of_word}
use Rattle.kb_structure.specs.declared.cert.Cert.{Cert}
use Rattle.kb_structure.specs.declared.cert.Cert.TheVariants.{N1, N2, N3, N4, N5, N6, N7, N8}

-- texts, each with a blank before it
abbrev pub spaced : List (List ℕ) → List ℕ
spaced [] = []
spaced (text ∷ texts) = 32 ∷ text ++ spaced texts

-- what stands behind a certificate's kind: the generator's name or the relation's number, and words
abbrev pub parts_of_line : List (List ℕ) → Cert → List (List ℕ)
parts_of_line names (N1 u) = codes "N1" ∷ text_of_word names u ∷ []
parts_of_line names (N2 x u v) =
    codes "N2" ∷ letter_name names x ∷ text_of_word names u ∷ text_of_word names v ∷ []
parts_of_line names (N4 x u) = codes "N4" ∷ letter_name names x ∷ text_of_word names u ∷ []
parts_of_line names (N5 x u v other) =
    codes "N5" ∷ letter_name names x ∷ text_of_word names u ∷ text_of_word names v
    ∷ text_of_word names other ∷ []
parts_of_line names (N6 x u) = codes "N6" ∷ letter_name names x ∷ text_of_word names u ∷ []
parts_of_line names (N7 x u v) =
    codes "N7" ∷ letter_name names x ∷ text_of_word names u ∷ text_of_word names v ∷ []
parts_of_line names (N8 number u a b) =
    codes "N8" ∷ decimal number ∷ text_of_word names u ∷ text_of_word names a
    ∷ text_of_word names b ∷ []
parts_of_line names (N3 x u v) =
    codes "N3" ∷ letter_name names x ∷ text_of_word names u ∷ text_of_word names v ∷ []

-- `no`, the certificate's kind, what stands behind it, and a newline
abbrev pub certificate_line : List (List ℕ) → Cert → List ℕ
certificate_line names cert = codes "no" ++ (spaced (parts_of_line names cert) ++ newline ∷ [])
