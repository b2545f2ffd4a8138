pub mod RaggedLemmas
