mod Closes
