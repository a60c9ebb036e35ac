pub mod TokensLeft
pub mod Capitals
pub mod CommaLists
pub mod Tokens
pub mod FewBytes
pub mod SymbolsOutside
pub mod GrammarIsRead
pub mod ReadIsGrammar
