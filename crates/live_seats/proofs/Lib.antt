mod Finishing
mod GoingOn
mod Keeping
mod Passes
