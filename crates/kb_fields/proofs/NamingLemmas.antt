-- The first name that is repeated among names of fields, for the crates above: from the lemmas of the trees.
pub use Rattle.kb_record.proofs.NamingLemmas.{one_repeated, none_within}
