mod Pieces
mod StoryLemmas
