mod ContentLemmas
mod DecisionLemmas
mod HeadingLemmas
mod LineLemmas
mod NamedLemmas
mod RestoreLemmas
