-- lemmas
mod CopyLemmas
mod VerifyLemmas
