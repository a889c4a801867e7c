-- What a reader must believe. A definition is headed by the rule that it renders: the rule's label in docs/RULES.md, and a quote from
-- there; or by a line of its own, where it only serves those beside it. .ci/rules holds the quotes to that page.
-- The declarative side, Words to Pair, imports nothing of what stands below it.
-- Letters: g terms, ws words, w word or write, h header, s setting, p parameter or place, v value, o offset, t type, u sub-type,
-- a address or answer, c cell, st state, r reason, row or register, k words left, n number, i index.
pub mod Words
pub mod Registers
pub mod Grants
pub mod Batch
pub mod State
pub mod Pair
pub mod Positions
pub mod Answers
pub mod Reader
pub mod Engine
pub mod Writer
pub mod Query
pub mod Text
pub mod Lister
pub mod Listings
pub mod ListingReader
pub mod Exported
pub mod Fitter
pub mod Reasons
pub mod Cases
