pub mod embedding_lemmas
pub mod brackets_lemmas
pub mod resolve_lemmas
