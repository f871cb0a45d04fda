mod TextLemmas
mod SealLemmas
mod CallLemmas
