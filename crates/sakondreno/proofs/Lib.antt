-- What the proofs of the exports share.
pub mod PlainPromises
