-- Limits that are reached, and the lines that name them.
use Rattle.std.specs.Prelude.{ℕ, List, [], ◌∷◌, ◌++◌, codes, decimal}
use Rattle.kb_io.specs.Bytes.{newline}
use Rattle.kb_word.specs.Printed.{letter_name, text_of_word}
use Rattle.kb_task.specs.declared.status.Limit.{Limit}
use Rattle.kb_task.specs.declared.status.Limit.TheVariants.{Rules, Length, Diffs, States}
use Rattle.kb_task.specs.declared.status.Construction.{Construction}
use Rattle.kb_task.specs.declared.status.Construction.TheVariants.{And, Or, Not, Exists, Concat, Star, Reverse, Equal, Acceptor, Multiplier, Images, Relation, Minred, Minkb}

-- what a construction is called, over letters with these names
abbrev pub construction_name : List (List ℕ) → Construction → List ℕ
construction_name names And = codes "and"
construction_name names Or = codes "or"
construction_name names Not = codes "not"
construction_name names Exists = codes "exists"
construction_name names Concat = codes "concat"
construction_name names Star = codes "star"
construction_name names Reverse = codes "reverse"
construction_name names Equal = codes "equal"
construction_name names Acceptor = codes "acceptor"
construction_name names (Multiplier generator) = codes "multiplier " ++ letter_name names generator
construction_name names (Images generator) = codes "axiom N4 " ++ letter_name names generator
construction_name names (Relation number) = codes "axiom N8 " ++ decimal number
construction_name names Minred = codes "minred"
construction_name names Minkb = codes "minkb"

-- what a limit is called
abbrev pub limit_name : List (List ℕ) → Limit → List ℕ
limit_name names Rules = codes "rules"
limit_name names Length = codes "length"
limit_name names Diffs = codes "diffs"
limit_name names (States which) = codes "states " ++ construction_name names which

-- the line of a limit that was reached
abbrev pub undecided_line : List (List ℕ) → Limit → List ℕ
undecided_line names limit = codes "undecided " ++ (limit_name names limit ++ newline ∷ [])

-- the line of a limit that was reached at two words
abbrev pub undecided_words_line : List (List ℕ) → Limit → List ℕ → List ℕ → List ℕ
undecided_words_line names limit u v =
    codes "undecided "
    ++ (limit_name names limit ++ 32
    ∷ (text_of_word names u ++ 32 ∷ (text_of_word names v ++ newline ∷ [])))
