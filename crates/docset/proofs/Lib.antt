-- Laws of sets of documents: SetLaws (what each function does), Walk (a loop over the documents of a set).
pub mod SetLaws
pub mod Walk
