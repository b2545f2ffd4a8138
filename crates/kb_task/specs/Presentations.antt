-- Files of presentations.
use Rattle.std.specs.Prelude.{◌≡◌, ◌≢◌, ℕ, ◌<◌, List, length, Option, Some, None}
use Rattle.kb_word.specs.Names.{name_of}
use Rattle.kb_word.specs.Presentations.{PresentationParts}
use Rattle.kb_word.specs.Relations.{inverse_letter}
use Rattle.kb_word.specs.declared.word_order.WordOrder.TheVariants.{ShortLex}
use Rattle.kb_diff.specs.Groups.{EachInverts}
use Rattle.kb_presfile.specs.Holds.{PresentationOf}
use Rattle.kb_presfile.specs.Faults.{HasPresFault}
use Rattle.kb_presfile.specs.declared.error.PresError.TheVariants as pres_errors
use Rattle.kb_task.specs.Loads.{Files, IsHeld, IsNoText}
use Rattle.kb_task.specs.declared.status.FileFault.{FileFault}
use Rattle.kb_task.specs.declared.status.FileFault.TheVariants.{Missing, TooLong, Presentation, NeedsShortlex, NotGroup}

-- the file of this name holds this presentation
pub record HoldsPresentation (files : Files) (name : List ℕ)
    (parts : PresentationParts) : Type 0 where
  pub bytes : List ℕ
  pub held : IsHeld files name bytes
  pub says : PresentationOf bytes parts

-- why the file of this name holds no presentation: it isn't there, is too long, or has the fault that is named
abbrev pub IsPresentationFault : Files → List ℕ → FileFault → Type 0
IsPresentationFault files name Missing = IsNoText files name Missing
IsPresentationFault files name TooLong = IsNoText files name TooLong
IsPresentationFault files name (Presentation fault) =
    (bytes : List ℕ) × IsHeld files name bytes × HasPresFault bytes fault
    × (fault ≢ pres_errors.Memory)
IsPresentationFault files name _ = ⊥

-- the file holds a presentation by another order than shortlex
pub record HoldsOtherOrder (files : Files) (name : List ℕ) : Type 0 where
  pub parts : PresentationParts
  pub holds : HoldsPresentation files name parts
  pub other : parts.order ≢ ShortLex

-- why the file of this name holds no presentation by shortlex
abbrev pub IsShortlexFault : Files → List ℕ → FileFault → Type 0
IsShortlexFault files name NeedsShortlex = HoldsOtherOrder files name
IsShortlexFault files name fault = IsPresentationFault files name fault

-- the file holds a presentation of a group by shortlex: each generator has an inverse
pub record HoldsGroup (files : Files) (name : List ℕ) (parts : PresentationParts) : Type 0 where
  pub holds : HoldsPresentation files name parts
  pub shortlex : parts.order ≡ ShortLex
  pub inverses : EachInverts (length parts.names) parts.inverses

-- the generator of this name is the first that has no inverse
pub record IsFirstWithoutInverse (names : List (List ℕ)) (inverses : List (Option ℕ))
    (generator : List ℕ) : Type 0 where
  pub letter : ℕ
  pub named : name_of names letter ≡ Some generator
  pub lacks : inverse_letter inverses letter ≡ None
  pub earlier : (x : ℕ) → 0 < x → x < letter → inverse_letter inverses x ≢ None

-- the file holds a presentation by shortlex, in which the generator of this name is the first that has no inverse
pub record HoldsNoGroup (files : Files) (name generator : List ℕ) : Type 0 where
  pub parts : PresentationParts
  pub holds : HoldsPresentation files name parts
  pub shortlex : parts.order ≡ ShortLex
  pub first : IsFirstWithoutInverse parts.names parts.inverses generator

-- why the file of this name holds no group by shortlex
abbrev pub IsGroupFault : Files → List ℕ → FileFault → Type 0
IsGroupFault files name NeedsShortlex = HoldsOtherOrder files name
IsGroupFault files name (NotGroup generator) = HoldsNoGroup files name generator
IsGroupFault files name fault = IsPresentationFault files name fault
