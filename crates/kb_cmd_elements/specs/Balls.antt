-- The ball of what is presented: the least words of at most so many letters.
use Rattle.std.specs.Prelude.{◌≡◌, ℕ, ◌≤◌, List, ◌++◌, length, AllPairs, Contains}
use Rattle.kb_io.specs.Bytes.{AppendsPrefix}
use Rattle.kb_word.specs.Words.{Less}
use Rattle.kb_word.specs.Presentations.{PresentationParts}
use Rattle.kb_word.specs.Relations.{IsOver}
use Rattle.kb_reduced.specs.Reduced.{IsLeastWord}
use Rattle.kb_system.specs.Completed.{below, relations, IsLeastIn}
use Rattle.kb_task.specs.declared.status.Status.{Status}
use Rattle.kb_task.specs.declared.status.Status.TheVariants.{Yes, Memory, Fault}
use Rattle.kb_task.specs.declared.status.Which.TheVariants.{Output}
use Rattle.kb_listing.specs.Asked.{lines_of_words}

-- the word is the least of its element, and has at most so many letters
pub record IsInBall (parts : PresentationParts) (radius : ℕ) (word : List ℕ) : Type 0 where
  pub over : IsOver (length parts.names) word
  pub least : IsLeastWord (below parts) (relations parts) word
  pub short : length word ≤ radius

-- The words are in the ball and ascend in the shortlex order, and no other of the ball comes before their last.
pub record AreFirstOfBall (parts : PresentationParts) (radius : ℕ)
    (words : List (List ℕ)) : Type 0 where
  pub ascend : AllPairs Less words
  pub inside : (word : List ℕ) → Contains words word → IsInBall parts radius word
  pub none_before : (word other : List ℕ) → Contains words word → IsInBall parts radius other
      → Less other word → Contains words other

-- Each element that some word of at most so many letters stands for has one of these words, its least word; the words
-- are such words, and ascend, so that none stands twice.
pub record IsBall (parts : PresentationParts) (radius : ℕ) (words : List (List ℕ)) : Type 0 where
  pub first : AreFirstOfBall parts radius words
  pub elements : (w : List ℕ) → IsOver (length parts.names) w → length w ≤ radius
      → (m : List ℕ) × IsLeastIn parts w m × Contains words m

-- a front of the lines of the first words of the ball was written
pub record IsFrontOfBall (parts : PresentationParts) (radius : ℕ)
    (before after : List ℕ) : Type 0 where
  pub words : List (List ℕ)
  pub first : AreFirstOfBall parts radius words
  pub front : AppendsPrefix before after (lines_of_words parts.names words)

-- the ball was written, each word on a line; or a front of that, where the output failed or memory ran out
pub data BallIsPrinted (parts : PresentationParts) (radius : ℕ)
    (before after : List ℕ) : Status → Type 0 where
  printed : {words : List (List ℕ)} → IsBall parts radius words
      → after ≡ before ++ lines_of_words parts.names words
      → BallIsPrinted parts radius before after Yes
  failed : IsFrontOfBall parts radius before after
      → BallIsPrinted parts radius before after (Fault Output)
  no_memory : IsFrontOfBall parts radius before after
      → BallIsPrinted parts radius before after Memory
