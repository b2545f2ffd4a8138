use Rattle.kb_fsa.specs.Language.{AcceptsText}
use Rattle.kb_count.proofs.Listings.{one-count, one-number}
use Rattle.kb_count.proofs.laws.there_is_one_count.Goals as goal

pub returns-clause-count : goal.returns-clause-count
returns-clause-count c = λ automaton count other one two. one-count (AcceptsText automaton) count other one two

pub returns-clause-number : goal.returns-clause-number
returns-clause-number c = λ automaton long number other one two. one-number one two
