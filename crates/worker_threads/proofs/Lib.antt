mod ServingLemmas
mod WorkingLemmas
