mod HeardCommits
mod OutcomeLemmas
mod SeenRequests
mod SessionLemmas
mod WordLemmas
