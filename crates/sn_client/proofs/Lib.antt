mod FlagLemmas
mod TurnLaws
